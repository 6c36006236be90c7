pub mod Outcome
pub mod Compile
pub mod Read
pub mod Demand3
pub mod Refusals
pub mod Left
