-- for the crates above
pub mod Laws
pub mod Light
pub mod Counting
