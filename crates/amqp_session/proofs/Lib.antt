pub mod Kept
pub mod OneWindow
pub mod Ranges
pub mod Written
