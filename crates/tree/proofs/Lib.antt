pub mod Nodes
pub mod Meanings
pub mod Counting
pub mod Accepted
pub mod Kids
pub mod ByKind
