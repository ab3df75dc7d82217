pub mod Groups
mod Noted
mod Puts
