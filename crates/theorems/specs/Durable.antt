-- What laws say of durable links, and of messages with a row in the book.
pub use Rattle.theorems.specs.Keeping.{IsKeptFirst}
pub use Rattle.theorems.specs.Admitted.{RowIsAdmitted, EachRowIsBoundOnce, EachNewRowIsBound}
pub use Rattle.theorems.specs.Kept.{OutcomeIsKept, EachOutcomeIsKept, EachRowIsDecidedOnce, RowsAreDecidedOnce}
pub use Rattle.theorems.specs.OwnRow.{TellsItsOwnRow}
pub use Rattle.theorems.specs.Accepting.{RowsAreAcceptedByConsumers, AcceptedIsTrue}
pub use Rattle.theorems.specs.Mapped.{MapIsOfBook, MapIsTrue}
pub use Rattle.theorems.specs.OwnConsumer.{GoesToOwnConsumer, NumbersAreGivenOnce}
pub use Rattle.theorems.specs.ToldRightly.{ToldRightly}
