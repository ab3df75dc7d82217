pub mod Drawn
pub mod Marks
pub mod Rules
pub mod Stamped
