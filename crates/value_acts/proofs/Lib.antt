pub mod OperatorLaws
pub mod SliceLaws
pub mod IndexLaws
pub mod NameLaws
pub mod SelectionLaws
pub mod JoinLaws
pub mod ArrayLaws
pub mod MatchLaws
