pub mod CallLaws
pub mod Samples
pub mod EnumerationSamples
pub mod LayoutSamples
