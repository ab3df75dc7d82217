pub mod Sorts
pub mod Fields
pub mod Laws
