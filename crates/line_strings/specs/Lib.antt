pub mod Axes
pub mod Views
