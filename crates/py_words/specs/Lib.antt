pub mod Phrases
pub mod Words_of
pub mod Openings
pub mod Word_laws
