mod Numbers
mod Constants
mod Constructs
mod Records
mod Hoisting
pub mod Args
