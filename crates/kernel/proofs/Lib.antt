pub mod Products
pub mod SignLaws
