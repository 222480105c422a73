pub mod Base
pub mod Map
