pub mod Outline
pub mod Parts
pub mod Moves
pub mod Following
pub mod Answers
