pub mod Joining
pub mod Checks
pub mod Answers
pub mod Cutting
pub mod Claims
pub mod loops
