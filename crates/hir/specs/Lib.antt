pub mod Hir
pub mod Tree
