pub mod Samples
pub mod Printing
