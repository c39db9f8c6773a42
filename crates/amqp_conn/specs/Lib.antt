pub mod Phase
pub mod Heartbeats
