pub mod Loops
pub mod Flags
