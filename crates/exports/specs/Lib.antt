pub mod After
pub mod Opened
