pub mod Middles
pub mod Mirrored
pub mod Rooms
pub mod Empties
pub mod Cuts
pub mod Passes
pub mod Runs
mod Kept
mod Fitted
mod Listed
mod Lawful
mod Waiting
mod Counted
