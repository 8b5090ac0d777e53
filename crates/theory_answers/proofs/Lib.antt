pub mod Says
pub mod Tests
pub mod Answer
pub mod Flag
