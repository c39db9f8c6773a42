-- Events that are handled one after another, and written together.
use Rattle.std.specs.Prelude.{◌≡◌, ◌⊎◌, ℕ, true, List, [], ◌∷◌, ◌++◌, length, IfSome, IfNone}
use Rattle.disk_core.specs.Twin.{Contents}
use Rattle.book_model.specs.Book.{BookView}
use Rattle.journal_store.specs.Store.{OpensTo}
use Rattle.router_trace.specs.declared.event.Event.{Event}
use Rattle.router_trace.specs.Trace.{Trace, step_of}
use Rattle.reply_rows.specs.Acts.{acts_of, book_in, finds_full, journaled}
use Rattle.core_machine.specs.declared.answers.Done.{Done}
use Rattle.core_machine.specs.declared.counts.Counts.{Counts}
use Rattle.core_machine.specs.Counting.{with_event}
use Rattle.core_machine.specs.Turns.{declines}
use Rattle.router_core.specs.Replies.{AllInTurn, handled, handled_all}

-- what is told of an event: whether it found the journal full, and its batch
pub record IsTold (t : Trace) (e : Event) (d : Done) : Type 0 where
  pub full : d.full ≡ finds_full (journaled t) t e
  pub written : IfSome d.journal (λ batch. batch.1.items ≡ acts_of t e)
  pub silent : IfNone d.journal (acts_of t e ≡ [])

-- what is told of several, one after another
abbrev pub AreTold : List ℕ → Trace → List Event → List Done → Type 0
AreTold id t [] [] = Unit {0}
AreTold id t [] (d ∷ ds) = ⊥
AreTold id t (e ∷ es) [] = ⊥
AreTold id t (e ∷ es) (d ∷ ds) = IsTold t e d × AreTold id (handled id t (step_of e)) es ds

-- each of them is counted
abbrev pub with_events : List Event → Counts → Counts
with_events [] n = n
with_events (e ∷ es) n = with_events es (with_event e n)

-- of these events these first ones were handled, each in turn; the others were not
pub record Handles (id : List ℕ) (t : Trace) (es first others : List Event) (ds : List Done) (old new : Counts) : Type 0 where
  pub events : es ≡ first ++ others
  pub in_turn : AllInTurn id t first
  pub told : AreTold id t first ds
  pub count : length ds ≡ length first
  pub counted : new ≡ with_events first old

-- Why no more are handled: as many were as were to be, or no other is left; or the next one is declined, which is dropped.
abbrev pub EndsHere : ℕ → ℕ → Trace → List Event → List Event → Type 0
EndsHere most handled t others left = ((others ≡ left) × ((handled ≡ most) ⊎ (left ≡ []))) ⊎ ((e : Event) × (others ≡ e ∷ left) × (declines t e ≡ true))

-- of these events some first ones, at most so many, were handled, and these are left
pub record HandlesGroup (id : List ℕ) (t : Trace) (es left : List Event) (most : ℕ) (ds : List Done) (old new : Counts) : Type 0 where
  pub first : List Event
  pub others : List Event
  pub handles : Handles id t es first others ds old new
  pub ends : EndsHere most (length ds) (handled_all id t first) others left

-- the book after some first ones of these events
pub record IsFirstBook (id : List ℕ) (t : Trace) (es : List Event) (b : BookView) : Type 0 where
  pub first : List Event
  pub others : List Event
  pub events : es ≡ first ++ others
  pub in_turn : AllInTurn id t first
  pub book : b ≡ book_in (handled_all id t first)

-- two files open to such a book
abbrev pub LeavesFirst : List ℕ → Trace → List Event → Contents → Type 0
LeavesFirst id t es contents = (b : BookView) × OpensTo contents b × IsFirstBook id t es b
