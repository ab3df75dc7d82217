pub mod Demo
pub mod Adds
