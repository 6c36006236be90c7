pub mod Decode
pub mod Numbers
