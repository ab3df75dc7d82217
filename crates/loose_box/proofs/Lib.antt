pub mod Made
pub mod Shapes
pub mod Slots
