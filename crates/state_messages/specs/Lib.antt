pub mod Asking
pub mod Figures
pub mod Messages
pub mod Turns
pub mod Fits
pub use Rattle.router_trace.specs.Trace
pub use Rattle.router_trace.specs.Deliveries
