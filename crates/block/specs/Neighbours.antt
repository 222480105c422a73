pub mod Raised
pub mod Lowered
