pub mod Adding
pub mod Blank
pub mod Handing
pub mod Ringing
pub use Rattle.core_machine.specs.Counting
pub use Rattle.core_machine.specs.Meaning
pub use Rattle.core_machine.specs.Moves
pub use Rattle.core_machine.specs.History
