-- What a crash leaves while groups of events are run.
use Rattle.std.specs.Prelude.{◌≡◌, ◌≢◌, ℕ, List, [], ◌∷◌, ◌++◌, length}
use Rattle.disk_core.specs.Twin.{Contents}
use Rattle.book_model.specs.Book.{BookView}
use Rattle.journal_store.specs.Store.{OpensTo}
use Rattle.router_trace.specs.declared.event.Event.{Event}
use Rattle.router_trace.specs.Trace.{Trace}
use Rattle.reply_rows.specs.Acts.{book_in}
use Rattle.core_runs.specs.declared.driving.Sent.{Sent}
use Rattle.core_runs.specs.Runs.{MaySteps, Run}

-- a book after some first of these events, one after another
pub record IsWithin (id : List ℕ) (t : Trace) (es : List Event) (b : BookView) : Type 0 where
  pub first : List Event
  pub others : List Event
  pub are : es ≡ first ++ others
  pub end : Trace
  pub steps : MaySteps id t first end
  pub book : b ≡ book_in end

-- two files open to such a book
abbrev pub LeftWithin : List ℕ → Trace → List Event → Contents → Type 0
LeftWithin id t es contents = (b : BookView) × OpensTo contents b × IsWithin id t es b

-- the group that comes next; none if no group is left
abbrev pub next_group : List (List Event) → List Event
next_group [] = []
next_group (es ∷ groups) = es

-- a book that these groups leave after t: that after some first of them, and after some first events of the next one
pub record IsLeftBy (id : List ℕ) (t : Trace) (groups : List (List Event)) (b : BookView) : Type 0 where
  pub first : List (List Event)
  pub rest : List (List Event)
  pub are : groups ≡ first ++ rest
  pub taken : List Sent
  pub mid : Trace
  pub run : Run id 0 t first taken mid
  pub within : IsWithin id mid (next_group rest) b

-- two files open to such a book
abbrev pub LeftBy : List ℕ → Trace → List (List Event) → Contents → Type 0
LeftBy id t groups contents = (b : BookView) × OpensTo contents b × IsLeftBy id t groups b

-- Of these groups as many first ones were handled, then one met a fault, and xs are all items that were taken. Two files open to the book after
-- those that were handled and some first events of the one that met the fault; and after all of its events, if an item was taken after it. So they
-- open to a book that holds everything that was answered.
pub record IsLeftAfter (id : List ℕ) (t : Trace) (groups : List (List Event)) (handled : ℕ) (xs : List Sent) (contents : Contents) : Type 0 where
  pub book : BookView
  pub left : IsLeftBy id t groups book
  pub count : handled ≡ length left.first
  pub last : List Sent
  pub items : xs ≡ left.taken ++ last
  pub answered : last ≢ [] → left.within.others ≡ []
  pub opens : OpensTo contents book
