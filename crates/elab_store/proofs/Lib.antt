pub mod ClassWalks
pub mod CountLaws
pub mod FaceLaws
pub mod HierarchyLaws
pub mod LeafLaws
mod LeafSamples
pub mod MemoryLaws
pub mod NumberNames
pub mod Pools
pub mod Standing
mod WaitSamples
pub mod WalkLaws
pub mod WrapLaws
mod WrappingSamples
