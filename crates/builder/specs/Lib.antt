pub mod Runs
pub mod Entries
pub mod Values
pub mod Labels
pub mod Move
pub mod Places
