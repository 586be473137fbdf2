pub mod LowerParts
pub mod LowerItems
pub mod LowerJoined
pub mod LowerPlaces
pub mod LowerInputs
pub mod LowerTables
