pub mod Pixels
pub mod Parts
pub mod Blocks
pub mod Shots
pub mod Maps
pub mod Laws
pub mod Same
