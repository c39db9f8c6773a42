pub mod Batches
pub mod Reading
pub mod Submits
