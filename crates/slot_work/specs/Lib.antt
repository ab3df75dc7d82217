pub mod LaidTiles
pub mod Lacking
pub mod OfWalk
pub mod Gathering
pub mod Round
