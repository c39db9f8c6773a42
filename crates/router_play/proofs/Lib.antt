pub mod Scenes
mod Grouped
pub mod Stops
pub mod Beginning
pub mod PlayMoves
pub mod Levels
pub mod Entering
pub mod Passing
mod Ending
mod Stages
mod Making
pub mod Bringing
mod Losing
pub mod Carried
mod Telling
