pub mod Trees
pub mod Within
pub mod Count
pub mod Handle
