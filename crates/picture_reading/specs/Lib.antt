pub mod Formats
pub mod Pictures
pub mod Reading
pub mod Changes
