pub mod Demands
pub mod Printing
pub mod Runs
