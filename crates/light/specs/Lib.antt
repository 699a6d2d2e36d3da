pub mod Light
pub mod loops
