pub mod Shares
pub mod SignedShares
pub mod Senders
