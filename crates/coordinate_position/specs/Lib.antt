pub mod Positions
pub mod Shapes
pub mod Alike
