pub mod Plain
pub mod Pushed
pub mod Queue
pub mod Parts
pub mod Steps
pub mod Lists
pub mod Examples
