pub mod Message
pub mod Scheduler
pub mod Refusing
pub mod Entering
pub mod Taking
pub mod Undo
