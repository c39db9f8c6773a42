mod Either
mod Filled
mod Fullness
mod Longer
mod Resumed
mod Settling
mod Small
pub mod Plain
pub mod Short
pub mod Tags
