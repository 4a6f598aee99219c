pub mod Shapes
pub mod Rects
