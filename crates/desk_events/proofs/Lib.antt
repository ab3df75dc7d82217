mod Exactly
mod SettledDesk
mod AtWork
mod TicketsMatch
pub mod StepCounts
mod ActsMove
mod Exported
pub mod FreeSlots
mod PairRuns
pub mod OwnTiles
pub mod Untouched
pub mod Committing
pub mod WalkedRows
pub mod Ending
mod SmallJobs
mod Barriers
mod SameWalks
