-- Tables as lists of what their rows hold.
pub mod Listed
