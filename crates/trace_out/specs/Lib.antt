pub mod Writing
pub mod Lent
pub mod Goes
pub mod Traces
