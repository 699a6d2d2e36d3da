pub mod Frames
pub mod loops
