pub mod MapLaws
pub mod Lists
pub mod ListLaws
pub mod KeyLaws
pub mod Places
pub mod Branches
pub mod Firsts
