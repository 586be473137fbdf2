pub mod Growing
pub mod FlatPairs
pub mod FlatOrders
pub mod FlatRounds
pub mod DrivenOnce
pub mod FlatDeltas
pub mod Resets
pub mod FlatSteps
pub mod FlatHistories
pub mod BlockParts
pub mod FlatBodies
pub mod FixedTargets
pub mod FlatDesigns
pub mod Flattened
mod Answered
mod SlotLists
mod PlacedBits
mod WrittenSources
mod ShownWrites
mod ShownAssignments
mod ShownTurns
pub mod WriteSteps
pub mod Placings
pub mod WritePlaces
pub mod WriteChoices
pub mod TargetItems
pub mod WritesPutLaw
pub mod WriteOrigins
pub mod WritesPlacedLaw
pub mod WriteTests
pub mod WriteLaws
pub mod PieceSteps
pub mod Added
pub mod Joining
pub mod SourceLists
pub mod Choosing
pub mod Extending
pub mod WriteBounds
mod SanityWrites
mod ShownBlocks
pub mod Activities
pub mod Testing
mod FoundLaws
mod StartLaws
mod PlainBodies
mod FixedLaws
mod SlottedBodies
mod AssignedMore
