pub mod RecordsLaws
pub mod Rans
pub mod Streams
pub mod Unreads
pub mod Written
