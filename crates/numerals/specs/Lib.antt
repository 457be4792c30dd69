pub mod Numerals
pub mod Told
