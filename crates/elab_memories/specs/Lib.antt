pub mod Memories
pub mod Ports
pub mod Attributes
