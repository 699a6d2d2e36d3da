pub mod Pixels
pub mod Claims
pub mod loops
