pub mod Places
pub mod Keeps
pub mod Tick
pub mod Lists
