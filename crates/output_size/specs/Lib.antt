pub mod OutputSize
