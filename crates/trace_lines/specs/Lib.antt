pub mod Forms
pub mod Fits
pub mod Replay
pub mod ReplayLaws
pub mod Texts
pub mod Ranges
pub mod Leads
pub mod PrintLaws
