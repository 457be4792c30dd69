pub mod Turns
pub mod Laid
