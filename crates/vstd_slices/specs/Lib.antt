pub mod Slices
pub mod Promises
