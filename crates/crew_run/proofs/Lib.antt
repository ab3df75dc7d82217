mod Fronts
mod Kept
mod Roots
pub mod ShownScripts
