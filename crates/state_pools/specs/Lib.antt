pub mod Addresses
pub mod ByBytes
pub mod Digest
pub mod Due
pub mod Fits
pub mod Laws
pub mod Sharing
