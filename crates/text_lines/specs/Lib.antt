pub mod Decoding
pub mod Text
