pub mod Strings
pub mod Builder
pub mod Access
pub mod Operators
pub mod Meaning
pub mod Statement
