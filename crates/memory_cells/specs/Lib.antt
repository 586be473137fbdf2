pub mod Bits
pub mod Plans
pub mod Clocks
pub mod Cells
pub mod Fits
pub mod Carried
pub mod Laws
