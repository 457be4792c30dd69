pub mod Run
pub mod Demands
