pub mod Runs
pub mod Assigned
pub mod Word_samples
pub mod BlockLines
pub mod BlockLoops
pub mod BlockWholes
pub mod Mapped
