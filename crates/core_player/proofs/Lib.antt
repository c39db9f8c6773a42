mod Looks
mod Asks
mod Bytes
pub mod Streams
pub mod Keeping
mod Feeding
pub mod Scenes
mod Handing
mod Walking
mod Recording
pub mod Telling
