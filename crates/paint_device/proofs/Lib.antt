pub mod Kept
pub mod Writes
pub mod Shown
pub mod Grabbed
pub mod Extents
pub mod InPlace
pub mod SameMaps
