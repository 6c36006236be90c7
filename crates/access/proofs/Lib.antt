pub mod Chains
pub mod Texts
mod Accesses
