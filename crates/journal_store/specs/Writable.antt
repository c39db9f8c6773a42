-- What can be written to a store.
use Rattle.std.specs.Prelude.{◌≡◌, ◌≤◌, List, length, None}
use Rattle.book_model.specs.declared.act.Act.{Act}
use Rattle.book_model.specs.Book.{BookView, first_fault}
use Rattle.journal_codec.specs.Batches.{HaveOutcomes}
use Rattle.journal_codec.specs.Format.{acts_bytes}

-- acts that can be written to a store with this book: they apply to it, fit one batch, and each outcome among them is one
pub record Writable (b : BookView) (acts : List Act) : Type 0 where
  pub applies : first_fault b acts ≡ None
  pub small : length (acts_bytes acts) ≤ 4194304
  pub outcomes : HaveOutcomes acts
