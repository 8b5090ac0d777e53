pub mod Digits
pub mod Bases
pub mod Runs
pub mod Powers
pub mod Number
