pub mod Says
pub mod Answer
pub mod Flag
