pub mod Listening
pub mod Script
pub mod Playing
pub mod Asking
pub mod Printing
pub mod Telling
pub mod Entries
pub mod Recording
