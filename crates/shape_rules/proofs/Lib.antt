pub mod Amounts
pub mod CommonShape
pub mod Laws
pub mod WorkShape
pub mod Corners
