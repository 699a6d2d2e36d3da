pub mod Formats
pub mod Converting
pub mod loops
