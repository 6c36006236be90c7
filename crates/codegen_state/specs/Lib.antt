pub mod Stop
pub mod View
pub mod Index
pub mod Does
