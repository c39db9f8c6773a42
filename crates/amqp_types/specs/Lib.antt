pub mod Reading
pub mod Opening
pub mod Spells
pub mod Pieces
pub mod Fitting
