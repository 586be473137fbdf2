pub mod ParamLaws
pub mod DefLaws
pub mod ClassLaws
pub mod ClassEnds
pub mod DefGoes
pub mod WordLaws
