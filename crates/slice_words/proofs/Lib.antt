mod Entries
pub mod Strings
