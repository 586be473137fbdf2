pub mod Standing
pub mod Evaluations
pub mod Growth
pub mod Walked
