pub mod Log
pub mod Misfits
pub mod Table
pub mod Told
pub mod Fronts
