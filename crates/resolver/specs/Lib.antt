pub mod Lowered
pub mod Walk
pub mod Sizes
pub mod Texts
pub mod Steps
pub mod Passes
pub mod Resolved
pub mod Props
