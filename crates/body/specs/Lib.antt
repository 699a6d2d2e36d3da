pub mod Luminances
pub mod Levels
pub mod loops
