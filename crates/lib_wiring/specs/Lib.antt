pub mod Wiring
pub mod Places
pub mod Laws
