pub mod Interfaces
pub mod Connections
pub mod SignatureClasses
