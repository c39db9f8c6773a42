pub mod Act
pub mod Book
pub mod Fault
pub mod Keys
pub mod Made
pub mod Restoring
pub mod Sound
