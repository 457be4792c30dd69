pub mod Splits
pub mod Numbers
pub mod Integers
pub mod Tags
