-- What a writer writes, and why it ends.
use Rattle.std.specs.Prelude.{◌≡◌, ◌≢◌, ℕ, ◌+◌, ◌<◌, true, false, List, [], ◌∷◌, ◌++◌, length, take}
use Rattle.std.specs.Prelude.{Option, Result, Ok, Err}
use Rattle.std.specs.Io.KnownBytes.{Appends}
use Rattle.router_trace.specs.declared.event.ConnectionId.{ConnectionId}
use Rattle.core_machine.specs.declared.answers.Batch.{Batch}
use Rattle.core_machine.specs.declared.counts.Counts.{Counts}
use Rattle.core_machine.specs.declared.fault.CoreFault.{CoreFault}
use Rattle.serve_streams.specs.declared.end.WriteEnd.{WriteEnd}
use Rattle.serve_streams.specs.declared.end.WriteEnd.TheVariants as end
use Rattle.serve_streams.specs.Spelled.{spelled}

-- those of the items of batches
abbrev pub batches_spelled : List Batch → List ℕ
batches_spelled [] = []
batches_spelled (b ∷ bs) = spelled b.items.items ++ batches_spelled bs

-- how many items the batches have
abbrev pub items_in : List Batch → ℕ
items_in [] = 0
items_in (b ∷ bs) = length b.items.items + items_in bs

-- batches of a connection that the router gave, from a number on: each begins with the number after the items of those
-- before, and none is the connection's last
abbrev pub Follow : (Batch → Type 0) → ConnectionId → ℕ → List Batch → Type 0
Follow Given c next [] = Unit {0}
Follow Given c next (b ∷ bs) =
    Given b × (b.conn ≡ c) × (b.first ≡ next) × (b.ended ≡ false) × Follow Given c (next + length b.items.items) bs

-- this many more batches
abbrev pub with_batches : ℕ → Counts → Counts
with_batches k n = record n { batches = n.batches + k }

-- whether an answer is a batch: one more that was taken
abbrev pub taken_by : Result Batch CoreFault → ℕ
taken_by (Ok b) = 1
taken_by (Err f) = 0

-- a batch of the connection that the router gave, or its fault
abbrev pub IsAnswer : (Batch → Type 0) → ConnectionId → Result Batch CoreFault → Type 0
IsAnswer Given c (Ok b) = Given b × (b.conn ≡ c)
IsAnswer Given c (Err f) = Unit {0}

-- less than all of these bytes were appended
abbrev pub IsPartOf : List ℕ → Option (List ℕ) → Option (List ℕ) → Type 0
IsPartOf bytes before after = (k : ℕ) × (k < length bytes) × Appends before after (take k bytes)

-- A writer goes on after an answer, if the next batch begins with the number `next`, and the one after it with `behind`:
-- it is a batch that begins so and isn't the connection's last, and all of it was written.
abbrev pub GoesOn : Result Batch CoreFault → ℕ → ℕ → Option (List ℕ) → Option (List ℕ) → Type 0
GoesOn (Ok b) next behind before after =
    (b.first ≡ next) × (behind ≡ next + length b.items.items) × (b.ended ≡ false)
    × Appends before after (spelled b.items.items)
GoesOn (Err f) next behind before after = ⊥

-- A writer ends at an answer, and what it wrote of it. Ended: the connection's last batch, all of it. WriteFailed: less
-- than the whole batch. Gap: none, since the batch begins with another number. Memory: none, since memory was refused.
-- Core: the fault that was answered.
abbrev pub EndsAt : Result Batch CoreFault → WriteEnd → ℕ → Option (List ℕ) → Option (List ℕ) → Type 0
EndsAt (Ok b) end.Ended next before after =
    (b.first ≡ next) × (b.ended ≡ true) × Appends before after (spelled b.items.items)
EndsAt (Ok b) end.WriteFailed next before after =
    (b.first ≡ next) × IsPartOf (spelled b.items.items) before after
EndsAt (Ok b) end.Memory next before after = (b.first ≡ next) × (after ≡ before)
EndsAt (Ok b) end.Gap next before after = (b.first ≢ next) × (after ≡ before)
EndsAt (Ok b) (end.Core f) next before after = ⊥
EndsAt (Err f) e next before after = (e ≡ end.Core f) × (after ≡ before)

-- What a writer with this end appended to its output, and what its seat counted. It was given batches one after another,
-- numbered on from 0, and wrote the canonical bytes of each; then one more answer, at which it ended. Each batch is
-- counted once.
pub record Wrote (Given : Batch → Type 0) (c : ConnectionId) (before after : Option (List ℕ)) (old new : Counts)
    (e : WriteEnd) : Type 0 where
  pub batches : List Batch
  pub follow : Follow Given c 0 batches
  pub mid : Option (List ℕ)
  pub bytes : Appends before mid (batches_spelled batches)
  pub last : Result Batch CoreFault
  pub answer : IsAnswer Given c last
  pub ends : EndsAt last e (items_in batches) mid after
  pub counted : new ≡ with_batches (length batches + taken_by last) old
