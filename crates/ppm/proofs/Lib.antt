pub mod Endian
pub mod Texts
pub mod Printing
