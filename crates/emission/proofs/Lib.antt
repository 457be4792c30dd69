pub mod Adding
pub mod Speaking
