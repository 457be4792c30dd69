pub mod Scan
pub mod Flags
