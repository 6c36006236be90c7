pub mod Forms
pub mod Reading
pub mod Grammar
pub mod Laws
pub mod Digits
pub mod Windows
