pub mod Starts
pub mod CacheSteps
