pub mod World
pub mod PlainLines
pub mod Polylines
