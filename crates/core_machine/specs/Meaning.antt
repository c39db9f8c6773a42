-- What is known of a router, whatever it is made of: in terms of a trace, and of the book that its journal keeps.
use Rattle.std.specs.Prelude.{◌≡◌, ◌⊎◌, ◌+◌, ℕ, Bool, List, Option, Some, None}
use Rattle.book_model.specs.declared.act.Act.{Act}
use Rattle.book_model.specs.Book.{BookView}
use Rattle.router_trace.specs.declared.event.Event.{Event}
use Rattle.router_trace.specs.Trace.{Trace, Step}
use Rattle.router_trace.specs.Connection.{Connection, Batched}
use Rattle.state_connections.specs.declared.row.Taken.{Taken}
use Rattle.core_machine.specs.declared.answers.Batch.{Batch}
use Rattle.core_machine.specs.declared.counts.Counts.{Counts}
pub use Rattle.state_collections.specs.Among.{IsLeast}

-- What a journal keeps: its book, the number of its last batch, and the acts of that; none where a checkpoint has them, or no batch was written.
pub record Kept : Type 0 where
  pub book : BookView
  pub batches : ℕ
  pub last : List Act

pub record Meaning (M : Type 0) : Type 1 where
  -- its tables and its book are those of a trace
  pub fits : M → Trace → Type 0
  -- its container-id
  pub id : M → List ℕ
  -- it failed with a fault of the disk or of memory, and answers nothing else
  pub is_failed : M → Bool
  -- how many events it handled, and how many batches it returned
  pub counts : M → Counts
  -- the number of the last batch in its journal
  pub batches : M → ℕ
  -- its book with the journal that keeps it
  pub Store : Type 0
  pub store : M → Store
  -- how often its disk failed
  pub failures : M → ℕ
  -- its journal reads as this book, and whatever a crash leaves now opens to it
  pub keeps : M → BookView → Type 0
  -- its files keep this book, and the batches that are held lead from it to the router's own
  pub holds : M → BookView → Type 0
  -- whatever a crash leaves now opens to a book with this property
  pub leaves : M → (BookView → Type 0) → Type 0
  -- whatever a crash leaves now keeps something with this property
  pub leaves_journal : M → (Kept → Type 0) → Type 0
  -- the trace after an event, by the router's container-id: its acts, the event, and the items that it puts out
  pub next : List ℕ → Trace → Step → Trace
  -- what an event that comes next does to the book
  pub acts : Trace → Event → List Act
  -- whether an event that comes next finds the journal full: it would have acts that cost more than the room
  pub finds_full : Trace → Event → Bool
  -- the book that a trace leaves
  pub book : Trace → BookView
  -- that book after the acts of the event that comes next
  pub next_book : Trace → Event → BookView
  -- these go together: a journal that keeps its book holds nothing that leads elsewhere; a crash leaves the book of the files; and what a crash leaves has
  -- each property that follows
  pub kept_is_held : (router : M) (b : BookView) → keeps router b → holds router b
  pub held_leaves : (router : M) (b : BookView) → holds router b → leaves router (λ c. c ≡ b)
  pub leaves_weaker : (router : M) (P Q : BookView → Type 0) → ((b : BookView) → P b → Q b) → leaves router P → leaves router Q

-- one of two books
abbrev pub EitherOf : BookView → BookView → BookView → Type 0
EitherOf a b c = (c ≡ a) ⊎ (c ≡ b)

-- the book that a trace leaves, or that book after the acts of the event that comes next
abbrev pub BookAt : {M : Type 0} → Meaning M → Trace → Event → BookView → Type 0
BookAt m t e b = (b ≡ m.book t) ⊎ (b ≡ m.next_book t e)

-- that book after so many batches; or the next book after one batch more, which is of the event's acts
abbrev pub KeptAt : {M : Type 0} → Meaning M → ℕ → Trace → Event → Kept → Type 0
KeptAt m n t e k = ((k.book ≡ m.book t) × (k.batches ≡ n)) ⊎ ((k.book ≡ m.next_book t e) × (k.batches ≡ n + 1) × (k.last ≡ m.acts t e))

-- what is taken of a known connection, and a batch of it: at most this many first items of its outbox
abbrev pub IsTakenOf : Option Connection → ℕ → Taken → Type 0
IsTakenOf None most x = ⊥
IsTakenOf (Some v) most x = Batched v most x.first x.items.items x.ended

abbrev pub IsBatchOf : Option Connection → ℕ → Batch → Type 0
IsBatchOf None most b = ⊥
IsBatchOf (Some v) most b = Batched v most b.first b.items.items b.ended
