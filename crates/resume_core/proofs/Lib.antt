pub mod Kept
pub mod Places
pub mod Plans
pub mod Rowwise
