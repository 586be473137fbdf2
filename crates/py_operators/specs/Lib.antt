pub mod Truths
pub mod Sums
pub mod Spans
pub mod Elements
pub mod Operators
