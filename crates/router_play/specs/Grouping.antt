-- The acts of a journal's list, batch by batch: those of one batch have the place of one gate.
use Rattle.std.specs.Prelude.{◌==◌, ◌+◌, ◌++◌, ℕ, Bool, false, if◌then◌else◌, List, [], ◌∷◌, Option, Some, None}
use Rattle.book_model.specs.declared.act.Act.{Act}
use Rattle.gate_journal.specs.declared.listing.Entry.{Entry}

-- this is the place of that gate
abbrev pub is_at : Option ℕ → ℕ → Bool
is_at None place = false
is_at (Some gate) place = gate == place

-- so many batches, the last of which has this gate and these acts
pub record Group : Type 0 where
  pub number : ℕ
  pub acts : List Act

-- the last batch, after those so far
abbrev pub grouped : ℕ → Option ℕ → List Act → List Entry → Group
grouped n gate acts [] = record { number = n; acts = acts }
grouped n gate acts (x ∷ xs) =
    if is_at gate x.place then grouped n gate (acts ++ x.act ∷ []) xs else grouped (n + 1) (Some x.place) (x.act ∷ []) xs
