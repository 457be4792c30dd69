pub mod Turns
pub mod Decision
