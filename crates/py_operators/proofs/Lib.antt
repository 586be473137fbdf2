pub mod SumLaws
pub mod ChargeLaws
pub mod SpanLaws
pub mod StepLaws
pub mod ElementLaws
pub mod ElementsAre
pub mod Samples
