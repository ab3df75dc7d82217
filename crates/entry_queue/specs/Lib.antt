pub mod Keys
pub mod Pushed
pub mod Heads
