pub mod Filmed
pub mod Made
