pub mod Worked
pub mod Bytes
