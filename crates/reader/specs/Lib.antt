pub mod Steps
pub mod Claims
pub mod loops
