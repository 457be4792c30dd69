pub mod Derived
pub mod Order
