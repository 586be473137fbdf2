pub mod TwinLaws
pub mod Fits
pub mod LayoutLaws
pub mod NameLaws
pub mod Samples
