pub mod History
pub mod Examples
pub mod Sheet
