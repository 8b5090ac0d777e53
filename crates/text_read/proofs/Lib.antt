pub mod Tested
pub mod Padding
pub mod Backwards
pub mod Answered
