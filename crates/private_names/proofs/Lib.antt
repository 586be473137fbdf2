pub mod Layers
pub mod Names
pub mod Rows
pub mod Outside
pub mod Samples
