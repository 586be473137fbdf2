pub mod WalkParts
pub mod WalkLaws
pub mod TargetLaws
pub mod CompLaws
pub mod ForLaws
pub mod WalkGoes
pub mod BoundLaws
