pub mod Placed
pub mod Among
pub mod Leasts
pub mod Ids
pub mod Results
pub mod Remainders
pub mod Emptied
