mod Seats
mod Entries
mod Calling
mod Passing
