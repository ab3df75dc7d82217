mod ComposedWalks
mod Fronts
mod GivenPieces
pub mod GivenRows
mod KeptTiles
mod PaintedJobs
mod Parts
