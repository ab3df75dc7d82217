pub mod Pictures
pub mod Scenes
pub mod Rows
