pub mod Targets
pub mod Sends
pub mod Notes
pub mod Decided
