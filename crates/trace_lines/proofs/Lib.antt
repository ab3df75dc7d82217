pub mod Heads
pub mod ReplayedLines
pub mod ReadRows
pub mod PrintedTraces
