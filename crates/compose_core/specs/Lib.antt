pub mod Children
pub mod Laid
pub mod Spots
pub mod Piles
