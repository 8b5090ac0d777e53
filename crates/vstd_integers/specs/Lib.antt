pub mod Compare
pub mod Signed
pub mod Unsigned
