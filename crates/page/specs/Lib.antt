pub mod Checks
pub mod Tallying
pub mod Mapping
pub mod Claims
