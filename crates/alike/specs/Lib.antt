-- What the comparison of two blocks is said by.
pub mod Elements
pub mod NoteTable
pub mod Rows
pub mod Answer
