pub mod Cuts
pub mod Numbers
pub mod Reading
mod Configs
mod Played
