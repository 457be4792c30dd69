pub mod Pending
pub mod Unless
