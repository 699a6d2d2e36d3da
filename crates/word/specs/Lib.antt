pub mod Words
pub mod Fields
pub mod Placing
pub mod Pixels
pub mod loops
