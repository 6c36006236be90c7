pub mod Forms
pub mod FormCode
pub mod Rules
pub mod Siblings
pub mod Resolve
pub mod Write
