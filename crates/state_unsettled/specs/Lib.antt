pub mod Standing
pub mod Incoming
