pub mod Cuts
pub mod Entries
pub mod Longest
pub mod Meanings
pub mod Numbers
pub mod Others
pub mod Runs
