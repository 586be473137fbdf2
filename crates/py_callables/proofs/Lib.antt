pub mod AttributeLaws
pub mod CalledLaws
pub mod GoneLaws
pub mod MeetLaws
pub mod EnterLaws
pub mod SuperLaws
pub mod SumLaws
