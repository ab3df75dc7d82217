pub mod Paints
pub mod Due
pub mod Laid
pub mod Made
pub mod Dabs
pub mod Points
pub mod Tasks
pub mod Tracks
