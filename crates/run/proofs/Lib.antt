pub mod Lengths
pub mod Lists
pub mod Steps
pub mod Turns
pub mod Widths
