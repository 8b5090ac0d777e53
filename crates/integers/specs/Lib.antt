pub mod Tests
pub mod Signs
pub mod Narrow
