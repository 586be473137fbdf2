pub mod StateMachines
pub mod Moves
