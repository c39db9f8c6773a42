pub mod Runs
pub mod Leaving
