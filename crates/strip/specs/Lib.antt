pub mod Checks
pub mod Reading
