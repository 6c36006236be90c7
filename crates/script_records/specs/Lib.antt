pub mod Kind
pub mod Layout
pub mod Parts
