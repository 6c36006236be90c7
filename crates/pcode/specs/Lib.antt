pub mod Pcode
pub mod Moves
