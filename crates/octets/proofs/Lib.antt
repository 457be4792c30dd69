pub mod LittleEndian
pub mod Runs
