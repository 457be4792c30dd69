pub mod Declared
pub mod ReadBack
