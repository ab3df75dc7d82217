pub mod Stacks
pub mod Lends
