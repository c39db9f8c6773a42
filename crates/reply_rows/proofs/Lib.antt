pub mod Placed
pub mod Mapped
pub mod Taken
pub mod Transfers
pub mod Landing
mod Planned
