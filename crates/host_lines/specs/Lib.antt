pub mod Answers
pub mod Said
pub mod Lines
pub mod Structs
pub mod Values
