mod Values
mod Steps
mod Ripe
mod Shots
mod LowerChildren
mod Keeping
mod MadeFolds
mod KeptFolds
mod Tracking
mod Telling
mod Growing
mod Forgetting
mod SmallDamage
mod Committing
mod SmallJobs
mod Painting
pub mod KeptRoots
