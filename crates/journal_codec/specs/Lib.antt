pub mod Batches
pub mod Format
pub mod Outcome
pub mod Reading
