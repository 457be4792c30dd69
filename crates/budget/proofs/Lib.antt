pub mod Counts
pub mod Follows
pub mod Runs
