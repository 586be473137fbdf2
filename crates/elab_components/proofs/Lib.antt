pub mod ComponentLaws
pub mod FaceLaws
pub mod ImportSamples
pub mod ListLaws
pub mod ResetSamples
