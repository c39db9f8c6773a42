pub mod PeerMap
pub mod Resuming
