pub mod Tests
pub mod Segments
pub mod Strings
pub mod Trimming
pub mod Winding
