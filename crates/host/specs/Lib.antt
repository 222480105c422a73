pub mod Noted
pub mod Seen
