pub mod MachineLaws
pub mod MachineSamples
