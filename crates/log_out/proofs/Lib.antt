pub mod Begun
pub mod Names
pub mod Sheets
