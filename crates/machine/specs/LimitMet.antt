pub mod LimitMet
pub mod Exact
