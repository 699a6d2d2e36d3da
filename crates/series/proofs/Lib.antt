-- for the crates above
pub mod Laws
pub mod Strips
