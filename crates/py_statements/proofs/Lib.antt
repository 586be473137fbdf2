pub mod WhileLaws
pub mod AssignLaws
pub mod WithLaws
pub mod InsideLaws
pub mod ImportLaws
pub mod AnnotateLaws
pub mod AugmentBegins
pub mod ChangeLaws
