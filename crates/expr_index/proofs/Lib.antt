pub mod SameLaws
pub mod NumberLaws
pub mod KnowsLaws
pub mod ListLaws
pub mod Samples
