pub mod Lines
pub mod Script
pub mod Read
pub mod Told
