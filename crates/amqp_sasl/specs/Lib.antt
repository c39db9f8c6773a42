pub mod Codes
pub mod Names
pub mod Plain
pub mod Login
pub mod Answer
pub mod Users
pub mod Judging
