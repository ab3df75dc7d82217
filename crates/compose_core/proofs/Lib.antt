pub mod LaidChildren
pub mod Pictures
pub mod SpotPoints
pub mod LaidPiles
