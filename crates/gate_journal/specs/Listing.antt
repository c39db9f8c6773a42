-- The acts of batches, each with the place of its batch's gate.
use Rattle.std.specs.Prelude.{ℕ, ◌+◌, List, [], ◌∷◌, ◌++◌, length, map}
use Rattle.book_model.specs.declared.act.Act.{Act}
use Rattle.gate_journal.specs.declared.listing.Entry.{Entry}
use Rattle.journal_codec.specs.Format.{batch}

abbrev pub placed : ℕ → List Act → List Entry
placed place acts = map (λ act. record { place = place; act = act }) acts

-- those of batches, the first of whose gates is at this place
unfoldable pub entries_from : ℕ → List (List Act) → List Entry
entries_from place [] = []
entries_from place (acts ∷ bs) = placed place acts ++ entries_from (place + 1 + length (batch acts)) bs
