pub mod Streaming
pub mod Listings
pub mod Hosts
pub mod Summed
pub mod Sides
pub mod Rooms
