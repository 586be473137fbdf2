pub mod Operators
pub mod Names
pub mod Selections
pub mod Matching
pub mod Joins
pub mod Arrays
pub mod Indices
