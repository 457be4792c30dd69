pub mod Numbers
pub mod Deciding
pub mod Observing
pub mod Taking
