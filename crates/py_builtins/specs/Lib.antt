pub mod Sequences
pub mod Indices
pub mod Scalars
pub mod Lists
pub mod Builtins
pub mod At_once
