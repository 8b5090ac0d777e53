pub mod Kind
pub mod Division
pub mod Pairs
pub mod Fit
pub mod Multiple
pub mod Order
