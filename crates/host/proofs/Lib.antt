pub mod Walks
pub mod Numbers
