pub mod Lines
pub mod Series
pub mod Bands
pub mod Halves
