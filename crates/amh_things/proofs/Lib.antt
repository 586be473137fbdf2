pub mod Constants
pub mod ArgumentLaws
pub mod Drafts
pub mod PutLaws
pub mod PatternLaws
pub mod MeaningLaws
pub mod RangeLaws
pub mod PatternSamples
pub mod RangeSamples
pub mod RenumberLaws
mod RenumberSamples
