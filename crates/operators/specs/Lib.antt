pub mod Plans
pub mod Shapes
