-- What laws say of a message, from its coming to its outcome.
pub use Rattle.theorems.specs.Came.{BindsByKind, BringsItsOutcome, CopiesAreForAll, EachDeliveryCame}
pub use Rattle.theorems.specs.OneConsumer.{StaysWithConsumer, NeverComesBack, OfMessages}
pub use Rattle.theorems.specs.Carried.{CarriesWhatWasBound, FramesJoin}
pub use Rattle.theorems.specs.Decided.{OutcomesAreGiven, OutcomesAreOfConsumers}
pub use Rattle.theorems.specs.Told.{ToldAtMostOnce, ToldAnew, TellsAsGiven}
