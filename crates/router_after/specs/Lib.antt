pub mod After
pub mod Soonest
pub mod Starting
pub mod Draining
pub use Rattle.router_trace.specs.Trace
pub use Rattle.state_sessions.specs.Windows
