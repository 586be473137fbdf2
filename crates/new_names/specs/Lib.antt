pub mod Fresh
pub mod Tracked
pub mod Laws
