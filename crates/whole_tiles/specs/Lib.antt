pub mod Enough
pub mod Base
pub mod Wholes
pub mod Plans
pub mod Circles
