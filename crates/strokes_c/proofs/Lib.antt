pub mod CalledDesks
