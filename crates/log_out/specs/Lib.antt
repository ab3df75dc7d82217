pub mod Log
pub mod Summary
pub mod Phrases
