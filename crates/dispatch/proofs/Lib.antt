pub mod Halting
pub mod Concluding
