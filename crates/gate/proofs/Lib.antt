pub mod Among
pub mod Seats
pub mod Ends
pub mod Beginning
pub mod Noticing
