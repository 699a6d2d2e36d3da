pub mod Samples
pub mod Claims
