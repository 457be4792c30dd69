pub mod Announce
pub mod Revise
