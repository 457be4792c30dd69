pub mod Between
pub mod Names
pub mod Listed
pub mod Lines
