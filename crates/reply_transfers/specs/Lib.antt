pub mod Joining
pub mod Transfers
