pub mod Ports
pub mod Memories
pub mod Calls
pub mod Laws
