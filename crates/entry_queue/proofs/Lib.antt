pub mod Indexed
pub mod Standing
pub mod Taking
pub mod Heads
pub mod Shut
