pub mod Places
pub mod Figures
pub mod Plain
pub mod Reading
pub mod Narrower
pub mod Signs
pub mod Writing
pub mod Showing
