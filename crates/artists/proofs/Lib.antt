mod Sharing
mod Whole
mod Handing
