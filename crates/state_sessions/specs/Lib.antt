pub mod Fits
pub mod Windows
pub use Rattle.router_trace.specs.Trace
pub use Rattle.router_trace.specs.Sessions
pub use Rattle.amqp_session.specs.Figures
