-- What a batch costs, and the room of a journal: both hang on the book and the acts alone, since a checkpoint makes
-- room for what the book doesn't need.
use Rattle.std.specs.Prelude.{◌≡◌, ℕ, ◌+◌, ◌<◌, ◌≤◌, ◌-ℤ◌, ℤ, pos, Bool, ◌&&◌, ◌||◌, nat_lt, nat_le, List, [], ◌∷◌, ◌++◌, sum_by, vec_len}
use Rattle.book_model.specs.declared.act.Act.{Act}
use Rattle.book_model.specs.Book.{BookView, effects}
use Rattle.gate_journal.specs.Reserve.{journal_limit, reserve, growth, release, batch_bytes}
use Rattle.twin_journal.specs.declared.figures.Figures.{Figures}
use Rattle.twin_journal.specs.declared.figures.Needs.{Needs}
use Rattle.twin_journal.specs.declared.room.Batch.{Batch}
use Rattle.twin_journal.specs.declared.room.Cost.{Cost}
use Rattle.journal_codec.specs.Format.{batch}
use Rattle.twin_journal.specs.Format.{checkpoint_size}

-- the bytes of a side with a checkpoint of this book, up to and with the gate of the first batch
abbrev pub renewed_bytes : BookView → ℕ
renewed_bytes b = 30 + checkpoint_size b

-- what the limit leaves beside a checkpoint of the book and what it keeps free
abbrev pub room : BookView → ℤ
room b = pos journal_limit -ℤ pos (renewed_bytes b + reserve b)

-- A batch costs its bytes, and by how much it makes the reserve larger: this is above 0 where Costs holds.
abbrev pub Costs : BookView → List Act → Type 0
Costs b acts = reserve b < batch_bytes acts + reserve (effects b acts)

-- It costs more than the room. (The reserve before it stands on both sides.)
abbrev pub Exceeds : BookView → List Act → Type 0
Exceeds b acts = journal_limit < renewed_bytes b + batch_bytes acts + reserve (effects b acts)

-- A batch is too much for a journal of this book: it costs more than nothing, and more than the room.
pub record IsFull (b : BookView) (acts : List Act) : Type 0 where
  pub costs : Costs b acts
  pub exceeds : Exceeds b acts

-- The same as a test (`fullness_is_tested`).
unfoldable pub is_full : BookView → List Act → Bool
is_full b acts =
    nat_lt (reserve b) (batch_bytes acts + reserve (effects b acts))
    && nat_lt journal_limit (renewed_bytes b + batch_bytes acts + reserve (effects b acts))

-- What a journal knows of its book without asking it: what the book needs free, and a bound to the bytes of its
-- checkpoint.
pub record Suits (needs : Needs) (b : BookView) : Type 0 where
  pub reserve_is : needs.reserve ≡ reserve b
  pub within : checkpoint_size b ≤ needs.size

-- this is what a batch of these acts costs
pub record IsCost (cost : Cost) (acts : List Act) : Type 0 where
  pub bytes_are : cost.bytes ≡ batch_bytes acts
  pub growth_is : cost.growth ≡ sum_by growth acts
  pub release_is : cost.release ≡ sum_by release acts

-- a batch as it is written is that of these acts
pub record Spells (b : Batch) (acts : List Act) : Type 0 where
  pub block : b.block.items ≡ batch acts ++ 0 ∷ []
  pub len : vec_len b.block ≡ batch_bytes acts
  pub costs : IsCost b.cost acts

-- A checkpoint is due before a batch: where the batches behind the last one have 1,048,576 bytes or more, and no fewer
-- than that has; or where the batch, and what the book after it needs, go beyond the limit.
abbrev pub is_due : Figures → List Act → ℕ → Bool
is_due figures acts reserve_after =
    (nat_le (29 + figures.size + 1048576) figures.place && nat_le (29 + figures.size + figures.size) figures.place)
    || nat_lt journal_limit (figures.place + 1 + batch_bytes acts + reserve_after)
