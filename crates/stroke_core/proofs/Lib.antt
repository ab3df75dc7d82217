pub mod MoreJobs
pub mod FirstPlace
pub mod Apart
pub mod Blocks
pub mod RunFacts
