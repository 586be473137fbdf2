pub mod ControlLaws
pub mod GivenLaws
pub mod MeantLaws
pub mod NameLaws
pub mod Samples
