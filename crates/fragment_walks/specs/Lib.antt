pub mod Held
pub mod Holders
pub mod Walks
pub mod Names
pub mod Reads
pub mod Marks
pub mod Numbers
pub mod Walked
