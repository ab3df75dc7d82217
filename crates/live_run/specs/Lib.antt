pub mod Showing
pub mod Last
pub mod Lent
pub mod Owing
pub mod Painted
