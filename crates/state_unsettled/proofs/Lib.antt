mod Counted
mod Claimed
mod Marked
mod Tagged
mod Ranged
pub mod Beside
