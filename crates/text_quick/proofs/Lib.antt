pub mod Same
pub mod Rule
