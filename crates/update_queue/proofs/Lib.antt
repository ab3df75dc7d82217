pub mod Joining
pub mod Bounded
pub mod Elements
pub mod Keeping
pub mod Spread
