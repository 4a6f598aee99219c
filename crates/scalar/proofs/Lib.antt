pub mod Refusals
pub mod CoordLaws
pub mod UnitsLaws
