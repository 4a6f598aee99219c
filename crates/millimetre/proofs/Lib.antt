pub mod Exact
pub mod Tests
pub mod Order
