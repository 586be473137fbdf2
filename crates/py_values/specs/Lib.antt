pub mod Runs
pub mod Numbers
pub mod Widened
pub mod Limbs
pub mod Ranges
pub mod Bindings
