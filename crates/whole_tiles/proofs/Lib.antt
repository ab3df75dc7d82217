pub mod Seen
pub mod Hanging
pub mod News
pub mod Tiles
pub mod Circles
