pub mod EqualityLaws
pub mod MemberLaws
pub mod KeyLaws
pub mod ScopeLaws
pub mod ObjectLaws
pub mod DictLaws
