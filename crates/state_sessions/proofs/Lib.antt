pub mod Quiet
pub mod Beside
pub mod Heard
