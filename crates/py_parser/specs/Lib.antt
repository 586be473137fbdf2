pub mod Line_forms
pub mod Files
pub mod Parsing
