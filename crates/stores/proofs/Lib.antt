pub mod Bounds
pub mod Clearing
pub mod Cells
pub mod SixDigits
pub mod Seeing
