pub mod Enumerations
pub mod Layouts
pub mod StructClasses
pub mod Views
pub mod Laws
