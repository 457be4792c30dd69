pub mod Headers
pub mod Items
pub mod Turns
pub mod Scripts
pub mod Good
pub mod Examples
