pub mod ScalarLaws
pub mod SliceLaws
pub mod TupleLaws
pub mod AtOnceLaws
pub mod BuiltinSamples
pub mod SamplesSequences
