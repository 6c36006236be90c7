pub mod Words
pub mod References
