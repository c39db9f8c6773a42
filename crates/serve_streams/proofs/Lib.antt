pub mod Appending
pub mod Doors
pub mod Greets
pub mod Streams
