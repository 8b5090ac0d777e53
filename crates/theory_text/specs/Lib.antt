pub mod Scalar
pub mod Text
pub mod Table
pub mod Reading
pub mod Boundary
pub mod Ascii
pub mod WhiteSpace
pub mod Automaton
