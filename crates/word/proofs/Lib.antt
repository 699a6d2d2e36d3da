pub mod Limits
pub mod Thirds
pub mod Decoding
pub mod Walks
pub mod Pixels
pub mod BlockKinds
