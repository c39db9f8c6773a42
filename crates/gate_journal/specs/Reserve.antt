-- The room that a journal keeps free, so that what is begun can be finished: an undecided row can be decided, an unforgotten
-- row forgotten, and a terminus dropped, each in a batch of its own.
use Rattle.amqp_model.specs.PerfSpelling.{state_spelling}
use Rattle.std.specs.Prelude.{ℕ, ◌+◌, ◌*◌, ◌≤◌, Bool, ◌&&◌, nat_lt, List, [], ◌∷◌, length, sum_by, if◌then◌else◌, ◌<◌}
use Rattle.book_model.specs.declared.act.Act.{Act}
use Rattle.book_model.specs.declared.act.Act.TheVariants.{Make, Admit, Decide, Forget, Drop}
use Rattle.book_model.specs.declared.row.Row.{Row}
use Rattle.book_model.specs.Book.{BookView, is_undecided}
use Rattle.journal_codec.specs.Format.{acts_bytes}

-- the most bytes of a journal
abbrev pub journal_limit : ℕ
journal_limit = 67108864

-- 416 bytes for an undecided row, 14 for an unforgotten one
abbrev pub row_reserve : Row → ℕ
row_reserve r = (if is_undecided r then 416 else 0) + (if r.forgotten then 0 else 14)

-- what a journal keeps free for a book: that of its rows, and 14 bytes for each terminus
unfoldable pub reserve : BookView → ℕ
reserve b = sum_by row_reserve b.rows + 14 * length b.termini

-- by how much an act makes the reserve larger, and by how much smaller
abbrev pub growth : Act → ℕ
growth (Make t) = 14
growth (Admit a) = 430
growth _ = 0

abbrev pub release : Act → ℕ
release (Decide d) = 416
release (Forget n) = 14
release (Drop n) = 14
release _ = 0

-- the bytes that a batch adds to a journal: its length, its acts, and the gate behind it
abbrev pub batch_bytes : List Act → ℕ
batch_bytes acts = 5 + length (acts_bytes acts)

-- A batch costs five bytes, those of its acts, and the growth of the reserve: this is above 0 where Costs holds.
abbrev pub Costs : List Act → Type 0
Costs acts = sum_by release acts < 5 + length (acts_bytes acts) + sum_by growth acts

-- The batch costs more than the room in a journal that is this long and keeps this much free.
abbrev pub Exceeds : ℕ → ℕ → List Act → Type 0
Exceeds used kept acts = journal_limit + sum_by release acts < 5 + length (acts_bytes acts) + sum_by growth acts + used + kept

-- a batch costs more than nothing, and more than the room
abbrev pub IsFull : ℕ → ℕ → List Act → Type 0
IsFull used kept acts = Costs acts × Exceeds used kept acts

-- The same as a test: whether a batch costs more than nothing, and more than the room, in a journal that is this long and keeps
-- this much free.
abbrev pub is_full : ℕ → ℕ → List Act → Bool
is_full used kept acts =
    nat_lt (sum_by release acts) (batch_bytes acts + sum_by growth acts)
    && nat_lt (journal_limit + sum_by release acts) (batch_bytes acts + sum_by growth acts + used + kept)

-- acts that decide, forget and drop, each outcome of at most 400 bytes
abbrev pub Releases : Act → Type 0
Releases (Decide d) = length (state_spelling d.outcome) ≤ 400
Releases (Forget n) = Unit {0}
Releases (Drop n) = Unit {0}
Releases _ = ⊥

abbrev pub OnlyRelease : List Act → Type 0
OnlyRelease [] = Unit {0}
OnlyRelease (act ∷ acts) = Releases act × OnlyRelease acts
