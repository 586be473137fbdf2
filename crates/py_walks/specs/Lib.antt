pub mod Walk_parts
pub mod Binding_all
