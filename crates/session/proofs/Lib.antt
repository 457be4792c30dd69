pub mod Opens
pub mod Whole
