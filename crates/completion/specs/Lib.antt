pub mod Advance
pub mod Changes
