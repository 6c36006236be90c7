pub mod Written
pub mod Data
pub mod Writer
pub mod Header
