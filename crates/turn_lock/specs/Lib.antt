pub mod History
pub mod Answers
pub mod Passes
pub mod Turns
pub mod Steps
