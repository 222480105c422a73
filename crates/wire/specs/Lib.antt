pub mod Encode
pub mod Reader
pub mod Rewrite
