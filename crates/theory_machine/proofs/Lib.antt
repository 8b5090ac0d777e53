pub mod Bits
pub mod Signs
pub mod Narrow
pub mod Divisions
pub mod Orders
pub mod Shifts
