pub mod Blocks
pub mod Sided
pub mod Builders
pub mod Laws
pub mod Walks
pub mod Progress
pub mod Parting
