pub mod Events
pub mod Told
