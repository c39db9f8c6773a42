mod Again
pub mod Low
pub mod Called
pub mod Known
mod Tags
mod Keys
pub mod Puts
mod Closed
mod Named
mod Joined
mod Bound
mod Picked
mod Given
mod Forgotten
mod Heard
mod Reindexed
mod Settled
mod Moving
mod Found
mod Tallied
pub mod Numbers
mod Asked
pub mod Touching
mod Above
mod Entries
pub mod Unsent
mod Opened
pub mod Listed
pub mod Placed
mod Rowed
mod Handled
mod Identified
pub mod Detached
mod Decided
pub mod Beside
