pub mod Numbers
pub mod ReadBack
pub mod Runs
