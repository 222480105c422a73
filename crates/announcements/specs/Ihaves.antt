pub mod Entries
pub mod Heard
