pub mod Reflects
pub mod Reach
pub mod Points
pub mod Sets
pub mod Orient
