pub mod Archives
pub mod Founds
pub mod Slots
pub mod Documents
pub mod Entries
pub mod Tiles
pub mod Lends
