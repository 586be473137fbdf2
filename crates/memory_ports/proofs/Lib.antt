pub mod Widths
pub mod Growing
pub mod SpecLaws
pub mod PortLaws
pub mod MemoryLaws
pub mod Renames
pub mod Samples
