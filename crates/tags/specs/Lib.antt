pub mod Branches
pub mod Tags
