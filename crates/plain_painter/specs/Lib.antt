pub mod Steps
pub mod Means
pub mod Documents
pub mod Pictures
pub mod Tellings
