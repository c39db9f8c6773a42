pub mod Print
pub mod Status
pub mod Listing
pub mod Journals
pub mod Summaries
pub mod Endpoint
