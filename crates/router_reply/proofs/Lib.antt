pub mod Puts
pub mod After
mod Answering
pub mod Chosen
mod Refused
pub mod Held
