pub mod Ends
pub mod Greeting
pub mod Spelled
pub use Rattle.core_door.specs.Door
pub use Rattle.amqp_frames.specs.Cuts
pub use Rattle.amqp_model.specs.ItemSpelling
