pub mod States
pub mod Machines
pub mod Calls
pub mod Laws
