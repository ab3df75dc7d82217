pub mod Tables
pub mod Steps
pub mod Following
pub mod Rooms
pub mod Fronts
