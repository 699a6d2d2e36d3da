pub mod Pages
pub mod Pixels
pub mod HalfBlocks
