pub mod Nodes
pub mod Codes
pub mod Around
pub mod Exchanges
pub mod Outline
