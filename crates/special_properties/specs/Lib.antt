pub mod Text
pub mod SpecialProperties
