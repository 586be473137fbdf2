pub mod Pieces
pub mod Split
pub mod Kept
pub mod Laws
pub mod Short
pub mod Loops
pub mod Needs
pub mod Blocks
