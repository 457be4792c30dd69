pub mod Acquiring
pub mod Repeats
pub mod Unless
