pub mod Shape
pub mod Heads
pub mod Steps
