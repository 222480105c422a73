pub mod Records
pub mod Reading
pub mod Writing
pub mod Answering
pub mod Causes
