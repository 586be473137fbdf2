pub mod PlaceLaws
pub mod LeafLaws
pub mod LinkSteps
pub mod WireLaws
mod Samples
