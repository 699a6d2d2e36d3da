pub mod Text
pub mod Words
pub mod Answers
