pub mod Rings
pub mod Faults
pub mod Passings
pub mod Polygons
