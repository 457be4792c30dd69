pub mod Walk
pub mod Cells
pub mod View
pub mod Parts
pub mod Decides
pub mod Beside
