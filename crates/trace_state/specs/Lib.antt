pub mod Tiles
pub mod Painting
pub mod Walking
pub mod Slots
pub mod Trees
pub mod Histories
pub mod Taken
pub mod Waits
