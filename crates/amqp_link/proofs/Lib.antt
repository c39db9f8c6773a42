pub mod Left
pub mod Uses
pub mod Within
pub mod Sends
pub mod Receives
pub mod Settled
