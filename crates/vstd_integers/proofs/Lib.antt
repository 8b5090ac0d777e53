pub mod Worked
pub mod Bounds
pub mod Unsigned
pub mod Signed
pub mod Compare
pub mod Pinned
