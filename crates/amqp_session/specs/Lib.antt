pub mod Serials
pub mod Ranges
pub mod Session
pub mod Figures
pub mod Lending
