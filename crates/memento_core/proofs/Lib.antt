pub mod Sets
pub mod Exchanging
pub mod Booked
