pub mod Parts
pub mod Legs
pub mod Cutting
pub mod Turns
pub mod Releases
pub mod Naming
pub mod Named
pub mod Frames
