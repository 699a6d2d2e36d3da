pub mod Greatest
pub mod Entries
pub mod Below
