-- What a row that is read or written is to the list of what the rows hold.
pub mod Listed
pub mod Merges
