pub mod Graphs
pub mod Links
pub mod Walks
pub mod Searches
pub mod Cuts
pub mod Depths
