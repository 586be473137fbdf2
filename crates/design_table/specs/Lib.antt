pub mod Tests
pub mod MemoryTests
