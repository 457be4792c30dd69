pub mod Delay
pub mod Sum
