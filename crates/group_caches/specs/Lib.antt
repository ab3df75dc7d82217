pub mod Entries
pub mod Kept
pub mod Laying
pub mod Laws
pub mod Rooms
