pub mod Series
pub mod loops
