pub mod Names
pub mod Layouts
pub mod Enumerations
pub mod Laws
