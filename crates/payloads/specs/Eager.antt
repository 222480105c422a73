pub mod Targets
pub mod Scan
