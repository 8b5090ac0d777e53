pub mod Decoding
pub mod Encoding
pub mod Places
pub mod Characters
pub mod Promises
