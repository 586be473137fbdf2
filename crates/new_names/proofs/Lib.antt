pub mod NameLaws
pub mod GivenNames
