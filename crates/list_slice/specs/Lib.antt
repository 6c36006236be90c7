pub mod Entry
pub mod Words
pub mod Items
pub mod File
pub mod Compiled
pub mod Read
