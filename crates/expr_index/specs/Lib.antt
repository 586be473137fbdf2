pub mod Same
pub mod Numbers
pub mod First
pub mod Lists
pub mod Knows
pub mod Laws
