pub mod Open
pub mod Listing
pub mod Demands
