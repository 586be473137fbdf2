pub mod Attributes
pub mod Calls
pub mod Indexing
pub mod Acts
