pub mod Credit
pub mod Deliveries
pub mod Gathering
pub mod Receiving
pub mod Figures
