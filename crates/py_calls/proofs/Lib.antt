pub mod FrameLaws
pub mod ArgumentLaws
pub mod SliceLaws
pub mod AugmentLaws
pub mod CallOfLaws
pub mod TrailEnds
