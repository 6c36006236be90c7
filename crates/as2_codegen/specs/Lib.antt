pub mod Lowering
pub mod Begin
