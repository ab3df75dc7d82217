pub mod Lines
pub mod Colours
pub mod Fronts
pub mod Values
