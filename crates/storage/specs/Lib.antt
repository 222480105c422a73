pub mod Rows
pub mod Refs
pub mod Buckets
pub mod Lists
pub mod Tables
