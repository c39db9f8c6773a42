mod RunLemmas
mod Remains
mod Partway
pub mod Traces
