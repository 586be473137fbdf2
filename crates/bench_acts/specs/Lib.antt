pub mod Sharing
pub mod Targets
pub mod Context
pub mod Serving
pub mod Held
