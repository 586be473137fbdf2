pub mod Lists
pub mod Values
pub mod Utf8
pub mod Parts
pub mod Joins
pub mod Numbers
