pub mod Demands
pub mod Reading
pub mod Record
