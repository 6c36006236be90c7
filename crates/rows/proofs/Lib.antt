pub mod Passed
pub mod Kept
pub mod Statements
pub mod Innermost
