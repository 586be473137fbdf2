pub mod Turns
pub mod Nexts
pub mod DueLaws
pub mod Samples
