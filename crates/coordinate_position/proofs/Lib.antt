mod Memberships
mod Outlines
mod Strings
pub mod Alikes
