pub mod Door
pub mod Logins
