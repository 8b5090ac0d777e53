pub mod Bounds
pub mod Search
pub mod Part
pub mod Written
pub mod Pieces
