pub mod Lists
pub mod Fractions
pub mod Storing
pub mod Channels
pub mod Sources
pub mod Claims
pub mod loops
