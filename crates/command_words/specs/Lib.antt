pub mod Command
pub mod Laws
pub mod Request
pub mod Views
