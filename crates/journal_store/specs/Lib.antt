pub mod Acting
pub mod Exceeding
pub mod Lost
pub mod Settling
pub mod Store
pub mod Writable
