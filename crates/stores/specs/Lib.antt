pub mod Stores
pub mod Zeros
pub mod Flats
pub mod Decimals
pub mod Windows
