pub mod Sheets
pub mod Seen
pub mod Grabs
pub mod Extents
pub mod Laws
pub mod InPlace
