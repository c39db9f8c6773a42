pub mod Filling
pub mod Resumption
pub use Rattle.router_trace.specs.Deliveries
pub use Rattle.router_trace.specs.DeliveryFrames
