pub mod Jobs
pub mod Ranges
pub mod Forms
pub mod Plain
pub mod Texts
pub mod Points
