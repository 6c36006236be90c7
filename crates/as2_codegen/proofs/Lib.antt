pub mod First
pub mod Meets
pub mod Copying
