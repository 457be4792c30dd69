pub mod Listing
pub mod Records
