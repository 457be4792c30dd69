pub mod Tags
pub mod Given
pub mod Replied
pub mod Read
