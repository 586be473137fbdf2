mod PlanSamples
mod TraceSamples
pub mod TraceLaws
pub mod RowLaws
pub mod RunTraceLaws
pub mod EventLaws
pub mod FollowLaws
pub mod LaneLaws
pub mod Refused
pub mod ScriptTexts
mod ScriptSamples
pub mod ScriptFronts
pub mod ScriptLegal
pub mod DesignLaws
pub mod AcceptLaws
pub mod RunLaws
pub mod ClosingLaws
pub mod LinePlaces
pub mod RefusedLines
pub mod OneDesign
pub mod OneOutcome
pub mod PromiseLaws
