pub mod Refusals
pub mod Standing
pub mod Ends
