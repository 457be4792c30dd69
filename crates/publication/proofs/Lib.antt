pub mod Neat
pub mod Activation
pub mod Enlisting
pub mod Announcing
