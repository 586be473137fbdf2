pub mod Blocks
pub mod ClockDomains
pub mod Entering
pub mod Sides
pub mod Simulators
pub mod Submodules
pub mod Tops
pub mod Wrappers
