-- for the crates above
pub mod Laws
pub mod Checks
pub mod Handed
pub mod Strips
pub mod Bounds
pub mod Rules
