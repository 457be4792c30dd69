pub mod Cells
pub mod Steps
pub mod Answers
pub mod Halves
