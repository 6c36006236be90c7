pub mod Joined
pub mod TwoCalls
