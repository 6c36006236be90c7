pub mod HashLaws
pub mod SearchLaws
pub mod Added
pub mod PushLaws
pub mod Acts
