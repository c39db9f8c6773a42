pub mod Lists
pub mod Turns
pub mod Emptying
pub mod Beside
