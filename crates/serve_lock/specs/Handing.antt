-- Items of a connection that are handed in from the front of a queue, one after another, while the lock is held once.
use Rattle.std.specs.Prelude.{◌≡◌, ◌≢◌, ◌<◌, ◌≤◌, ◌⊎◌, ℕ, ◌+◌, ◌-◌, ◌^◌, Bool, true, false, if◌then◌else◌, min, List, [], ◌∷◌, ◌++◌, length, take}
use Rattle.amqp_model.specs.declared.item.Item.{Item}
use Rattle.book_model.specs.Book.{BookView}
use Rattle.router_trace.specs.declared.event.ConnectionId.{ConnectionId}
use Rattle.router_trace.specs.declared.event.Event.{Event}
use Rattle.router_trace.specs.declared.event.Event.TheVariants as event
use Rattle.router_trace.specs.Trace.{Trace, Step, step_of}
use Rattle.core_machine.specs.declared.fault.CoreFault.{CoreFault}
use Rattle.core_machine.specs.declared.fault.CoreFault.TheVariants.{Disk, Memory, Failed, NoConnection}
use Rattle.core_machine.specs.Meaning.{Meaning, BookAt}
use Rattle.core_machine.specs.Turns.{declines}

-- the items that left the front of a queue
abbrev pub gone : List Item → List Item → List Item
gone before behind = take (length before - length behind) before

-- at least one of them left it, or all
abbrev pub Enough : List Item → List Item → Type 0
Enough before behind = (behind ≡ []) ⊎ (length behind < length before)

-- why no more of them left it: none is left, or 64 left
abbrev pub Stopped : List Item → List Item → Type 0
Stopped before behind = (behind ≡ []) ⊎ (length behind + 64 ≡ length before)

-- the trace after items of a connection were handled, each as an event of its own; the trace after an event is that of `next`
abbrev pub handed : (Trace → Step → Trace) → ConnectionId → List Item → Trace → Trace
handed next conn [] t = t
handed next conn (item ∷ items) t = handed next conn items (next t (step_of (event.Item conn item)))

-- the trace after a router handled these items
abbrev pub after_items : {M : Type 0} → Meaning M → M → ConnectionId → List Item → Trace → Trace
after_items m router conn items t = handed (m.next (m.id router)) conn items t

-- the number of events that found the journal full, after one more event that did, or didn't; it rises no further than 64 bits reach
abbrev pub with_full : Bool → ℕ → ℕ
with_full found full = min (full + (if found then 1 else 0)) (2 ^ 64 - 1)

-- how many items of a connection find the journal full, where each is handled as an event of its own
abbrev pub found_full : {M : Type 0} → Meaning M → List ℕ → ConnectionId → List Item → Trace → ℕ
found_full m id conn [] t = 0
found_full m id conn (item ∷ items) t =
    (if m.finds_full t (event.Item conn item) then 1 else 0) + found_full m id conn items (m.next id t (step_of (event.Item conn item)))

-- one of these books: the first, that of the trace, or that after the acts of the event that comes next
abbrev pub BookFrom : {M : Type 0} → Meaning M → BookView → Trace → Event → BookView → Type 0
BookFrom m b t e c = (c ≡ b) ⊎ BookAt m t e c

-- a book is this one, or the book after some first ones of these items
abbrev pub BookAmong : {M : Type 0} → Meaning M → M → ConnectionId → List Item → Trace → BookView → BookView → Type 0
BookAmong m old conn items t b c =
    (c ≡ b) ⊎ ((first : List Item) × (rest : List Item) × (items ≡ first ++ rest) × (c ≡ m.book (after_items m old conn first t)))

-- the files of a router keep this book, or the book after some first ones of these items, and what it holds leads on from there
abbrev pub HoldsAmong : {M : Type 0} → Meaning M → M → M → ConnectionId → List Item → Trace → BookView → Type 0
HoldsAmong m old new conn items t b =
    m.holds new b ⊎ ((first : List Item) × (rest : List Item) × (items ≡ first ++ rest) × m.holds new (m.book (after_items m old conn first t)))

-- A router answered this fault to the last item that left a queue of a connection, after it handled those before it, in
-- their order, and held their batches: what that item did, by the fault, and what a crash leaves.
pub record Refuses {M : Type 0} (m : Meaning M) (conn : ConnectionId) (before behind : List Item) (old new : M)
    (had_full has_full : ℕ) (fault : CoreFault) : Type 0 where
  -- the items that were handled, and the one that wasn't
  pub items : List Item
  pub item : Item
  pub queue : before ≡ items ++ item ∷ behind
  -- the router declined it, has handled the others, and holds their batches
  pub declined : fault ≡ NoConnection → (t : Trace) → m.fits old t
      → m.fits new (after_items m old conn items t)
      × (declines (after_items m old conn items t) (event.Item conn item) ≡ true)
  pub works : fault ≡ NoConnection → m.is_failed new ≡ false
  pub held : fault ≡ NoConnection → (t : Trace) (b : BookView) → m.fits old t → m.holds old b → HoldsAmong m old new conn items t b
  -- the router had failed before: it handled none, and is as it was
  pub failed : fault ≡ Failed → (items ≡ []) × (new ≡ old) × (m.is_failed old ≡ true)
  -- it fails now
  pub memory : fault ≡ Memory → m.is_failed new ≡ true
  pub disk : fault ≡ Disk → m.is_failed new ≡ true
  -- its disk failed meanwhile exactly where the fault says so
  pub cause : fault ≡ Disk → m.failures old < m.failures new
  pub no_other : fault ≢ Disk → m.failures new ≡ m.failures old
  -- a crash leaves the book that the files kept, or the book after some first ones of the others
  pub leaves : (t : Trace) (b : BookView) → m.fits old t → m.holds old b → m.leaves new (BookAmong m old conn items t b)
  -- the others are counted that found the journal full
  pub full : (t : Trace) → m.fits old t → has_full ≡ min (had_full + found_full m (m.id old) conn items t) (2 ^ 64 - 1)

-- A router declined the last item that left a queue of a connection, after it handled those before it, in their order,
-- and their batches are written.
pub record Declined {M : Type 0} (m : Meaning M) (conn : ConnectionId) (before behind : List Item) (old new : M)
    (had_full has_full : ℕ) : Type 0 where
  pub items : List Item
  pub item : Item
  pub queue : before ≡ items ++ item ∷ behind
  pub fits : (t : Trace) → m.fits old t → m.fits new (after_items m old conn items t)
  pub declined : (t : Trace) → m.fits old t → declines (after_items m old conn items t) (event.Item conn item) ≡ true
  pub keeps : (t : Trace) (b : BookView) → m.fits old t → m.holds old b → m.keeps new (m.book (after_items m old conn items t))
  pub full : (t : Trace) → m.fits old t → has_full ≡ min (had_full + found_full m (m.id old) conn items t) (2 ^ 64 - 1)
