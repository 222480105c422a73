pub mod Weights
pub mod Steps
pub mod DispatchWeight
pub mod Events
pub mod Kept
pub mod Lists
