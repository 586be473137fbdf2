pub mod Setting
pub mod Runs
pub mod Standing
pub mod Laws
