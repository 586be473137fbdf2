pub mod Called
pub mod Going_over
pub mod Meeting
pub mod Entering
