pub mod Format_parts
pub mod Time_parts
