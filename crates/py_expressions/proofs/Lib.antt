pub mod ExprChains
pub mod ExprFormat
pub mod ExprTimes
pub mod SeekLaws
pub mod ExprArms
