pub mod Bodies
pub mod Steps
pub mod Outcomes
