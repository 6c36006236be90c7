pub mod Rows
pub mod Laws
pub mod Lists
pub mod Arms
pub mod Walks
