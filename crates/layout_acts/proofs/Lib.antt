pub mod EnumerationLaws
pub mod StructLaws
pub mod ViewLaws
pub mod ReadLaws
pub mod WithinLaws
