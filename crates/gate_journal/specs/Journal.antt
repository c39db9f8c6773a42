-- A journal as its callers see it.
use Rattle.std.specs.Prelude.{◌≡◌, ℕ, ◌+◌, Bool, List, length}
use Rattle.book_model.specs.declared.act.Act.{Act}
use Rattle.book_model.specs.Book.{empty_book}
use Rattle.gate_journal.specs.declared.journal.Journal.{Journal}
use Rattle.journal_codec.specs.Batches.{book_after}
use Rattle.gate_journal.specs.Reserve.{reserve}
use Rattle.gate_journal.specs.Stands.{IsAt}

-- its disk
abbrev pub disk_of : {D : Type 0} → Journal D → D
disk_of j = j.disk

-- how many batches it has
abbrev pub batch_count : {D : Type 0} → Journal D → ℕ
batch_count j = j.figures.count

-- its length in bytes, including the gate that ends it
abbrev pub used_bytes : {D : Type 0} → Journal D → ℕ
used_bytes j = j.figures.place + 1

-- the bytes that it keeps free
abbrev pub kept_bytes : {D : Type 0} → Journal D → ℕ
kept_bytes j = j.figures.reserve

-- an append of it has failed
abbrev pub has_failed : {D : Type 0} → Journal D → Bool
has_failed j = j.failed

-- The disk holds these batches, a crash leaves nothing else, and the figures are those of the batches.
pub record Keeps {D : Type 0} (seen : D → List ℕ) (may_leave : D → List ℕ → Type 0) (j : Journal D) (bs : List (List Act)) : Type 0 where
  pub at : IsAt (seen j.disk) (may_leave j.disk) j.figures.place bs
  pub kept : j.figures.reserve ≡ reserve (book_after empty_book bs)
  pub count : j.figures.count ≡ length bs
