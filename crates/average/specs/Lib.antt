pub mod Tables
pub mod Averages
pub mod Tallies
pub mod Claims
pub mod loops
