pub mod Feeding
pub mod Opening
pub mod Paths
pub mod Settling
pub mod Taking
pub mod Texts
pub mod Tiles
pub mod Views
