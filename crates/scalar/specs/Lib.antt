pub mod Refusal
pub mod Faults
pub mod Coords
pub mod Reaching
