pub mod Words
pub mod Lines
pub mod Cut
pub mod Script
pub mod Config
pub mod Running
