pub mod Computing
pub mod FormLaws
pub mod IdentifierLaws
pub mod NameLaws
mod Samples
