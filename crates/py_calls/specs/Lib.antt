pub mod Awaiting
pub mod Arguing
pub mod Slicing
