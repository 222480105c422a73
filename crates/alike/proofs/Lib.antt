-- Laws on plain values. Lists: lists by their elements. ByLink: the notes of a link. BlockReads: what is read from a block. Entries: rows of the tables. Answers: the answer.
pub mod Lists
pub mod ByLink
pub mod BlockReads
pub mod Entries
pub mod Answers
pub mod Words
