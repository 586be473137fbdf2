mod Disjoint
mod Enables
mod WrittenRows
mod ReadRows
mod FirstRows
mod Guards
pub mod Clocks
mod Rules
mod Loops
pub mod Masks
pub mod Spike
mod Spreads
mod CarriedEnds
pub mod ClockedSpike
