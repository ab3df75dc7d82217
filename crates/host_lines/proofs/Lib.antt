mod Codes
pub mod SaidLines
