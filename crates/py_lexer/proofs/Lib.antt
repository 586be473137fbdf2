mod BodyLaws
mod DecimalLaws
mod FrontLaws
mod LineEndLaws
mod LongestLaws
pub mod NumberLaws
mod NumeralLaws
mod ReachLists
mod ReachNumbers
mod ReachStrings
mod ReachWords
mod Samples
mod SignLaws
pub mod StringLaws
pub mod WalkLaws
mod WordLaws
mod SizeLaws
mod SpanLaws
pub mod TileLaws
