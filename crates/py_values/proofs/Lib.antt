pub mod NumberLaws
pub mod PowerLaws
pub mod BindingLaws
