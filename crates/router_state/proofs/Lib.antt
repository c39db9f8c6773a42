pub mod Bound
pub mod Channels
