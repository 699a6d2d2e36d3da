pub mod Levels
pub mod Claims
pub mod loops
