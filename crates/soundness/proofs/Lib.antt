pub mod Cells
pub mod Places
pub mod Sound
