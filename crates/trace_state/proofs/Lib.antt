mod Histories
mod Intakes
mod Noting
pub mod Passes
mod TileSets
mod TreeWays
