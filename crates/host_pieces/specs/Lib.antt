pub mod Fronts
pub mod Giving
pub mod Holdings
pub mod Jobs
pub mod Parts
pub mod Pieces
pub mod Walks
