pub mod Places
pub mod Among
pub mod NumberSet
pub mod Ids
pub mod NumberMap
pub mod Emptying
