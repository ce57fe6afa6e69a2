pub mod Views
pub mod Scripts
