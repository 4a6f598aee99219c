mod Holes
mod Passings
pub mod Polygons
pub mod Refusals
pub mod Rings
