pub mod MatchLaws
pub mod PlainLaws
mod Samples
