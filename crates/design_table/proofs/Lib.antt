mod DesignSides
pub mod DesignSound
pub mod DomainTests
pub mod Marks
pub mod MemoryTests
pub mod NoResets
mod Ports
mod Statements
mod TargetSides
pub mod Widths
