-- What a stop leaves of the journal, at any moment of a call that handles groups of events: a crash, or the end of the program; and how
-- the next router goes on.
use Rattle.std.specs.Prelude.{◌≡◌, ◌≢◌, ℕ, List, [], ◌∷◌, ◌++◌, length, None, IfSome}
use Rattle.disk_core.specs.Disk.{LeavesOnly}
use Rattle.disk_core.specs.Twin.{Contents}
use Rattle.book_model.specs.Book.{BookView}
use Rattle.journal_store.specs.Store.{OpensTo, Stands, twin_of}
use Rattle.router_trace.specs.declared.event.Event.{Event}
use Rattle.router_trace.specs.Trace.{Trace, Beginning}
use Rattle.router_trace.specs.Configuration.{opened}
use Rattle.reply_rows.specs.Acts.{book_in}
use Rattle.core_machine.specs.Moves.{Move}
use Rattle.router_core.specs.declared.router.Core.{Core}
use Rattle.router_core.specs.Handling.{Fits, id_of, store_of}
use Rattle.core_runs.specs.declared.driving.Driven.{Driven}
use Rattle.core_runs.specs.declared.driving.Sent.{Sent}
use Rattle.core_runs.specs.Leaving.{IsLeftAfter, IsLeftBy, LeftBy}
use Rattle.core_runs.specs.Runs.{Run}
use Rattle.theorems.specs.Lives.{Life, Lives}

-- A kind of two files that stop together, by what the trait `Twin` says of them: what a read gives, what a stop may
-- leave, which moment it is, and what a stop since some moment might have left.
pub record Stopping (T : Type 0) : Type 1 where
  pub seen : T → Contents
  pub may_leave : T → Contents → Type 0
  pub moment : T → ℕ
  pub left_since : T → ℕ → Contents → Type 0

abbrev pub stopping : {T : Type 0} → (T → Contents) → (T → Contents → Type 0) → (T → ℕ) → (T → ℕ → Contents → Type 0)
    → Stopping T
stopping seen may_leave moment left_since =
    record { seen = seen; may_leave = may_leave; moment = moment; left_since = left_since }

-- the router's journal is on its two files, and a stop leaves just that
abbrev pub JournalStands : {T : Type 0} → Stopping T → Core T → Type 0
JournalStands d core = Stands d.seen d.may_leave (store_of core)

-- A stop at any moment, before, within or after any call of the files, leaves two files that open to the book after
-- some first groups, and some first events of the next one.
abbrev pub AnyMomentLeavesAPrefix : {T : Type 0} → Stopping T → Core T → List (List Event) → Core T → Type 0
AnyMomentLeavesAPrefix d old groups new =
    (t : Trace) → Fits old t → JournalStands d old
    → LeavesOnly d.moment d.left_since (twin_of (store_of old)) (twin_of (store_of new)) (LeftBy (id_of old) t groups)

-- any two files that a stop may leave now open to this book
abbrev pub AllOpenTo : {T : Type 0} → Stopping T → Core T → Trace → Type 0
AllOpenTo d core u = (contents : Contents) → d.may_leave (twin_of (store_of core)) contents → OpensTo contents (book_in u)

-- Where no fault was answered the journal stands at the end, and any two files that a stop leaves open to the book
-- after all groups.
abbrev pub TheEndLeavesAll : {T : Type 0} → Stopping T → Core T → List (List Event) → Core T → Driven → Type 0
TheEndLeavesAll d old groups new driven =
    driven.fault ≡ None → JournalStands d old
    → JournalStands d new
    × ((t : Trace) → Fits old t → (u : Trace) × Run (id_of old) 0 t groups driven.taken.items u × AllOpenTo d new u)

-- Where a fault was answered, two files that a stop leaves at the end open to the book after the groups that were handled,
-- and some first events of the one that met the fault; and after all of its events if an item was taken after it.
-- So, whatever was answered, the events of which an item was taken are in the book that is left.
abbrev pub AFaultLeavesAllAnswered : {T : Type 0} → Stopping T → Core T → List (List Event) → Core T → Driven → Type 0
AFaultLeavesAllAnswered d old groups new driven =
    IfSome driven.fault (λ f. (t : Trace) → Fits old t → JournalStands d old
    → (contents : Contents) → d.may_leave (twin_of (store_of new)) contents
    → IsLeftAfter (id_of old) t groups driven.handled driven.taken.items contents)

-- Over runs.

-- a run that goes on: nothing is cut off yet
abbrev pub IsUnderWay : List ℕ → Life → List Life → Trace → Type 0
IsUnderWay id life lives t = (life.cut ≡ []) × Lives id (life ∷ lives) t

-- the run that a stop leaves: as it went so far, with more moves
abbrev pub stopped : Life → List Move → Life
stopped life more = record { opening = life.opening; moves = life.moves ++ more; cut = [] }

-- Two files that a stop leaves while these groups are handled after t open to the book of the runs before, and of this one: with the moves of
-- some first groups, each handled and its items taken, and of some first events of the next one, of which nothing was taken.
pub record EndsLife (id : List ℕ) (life : Life) (lives : List Life) (t : Trace) (groups : List (List Event)) (contents : Contents) : Type 0 where
  pub book : BookView
  pub left : IsLeftBy id t groups book
  pub more : List Move
  pub ended : Lives id (stopped life more ∷ lives) left.within.end
  pub opens : OpensTo contents book

-- whatever runs were before, and whatever this one did so far
abbrev pub EndsALife : {T : Type 0} → Stopping T → Core T → List (List Event) → Core T → Type 0
EndsALife d old groups new =
    (life : Life) (lives : List Life) (t : Trace) → IsUnderWay (id_of old) life lives t → Fits old t → JournalStands d old
    → LeavesOnly d.moment d.left_since (twin_of (store_of old)) (twin_of (store_of new)) (EndsLife (id_of old) life lives t groups)

-- So they do at the end of the call, which handled this many groups, and after which these items had been taken. An item
-- that isn't of the groups before the one that met a fault was put out by that one, or before all of them; then the book
-- is the one after all of its events.
pub record EndsAnswered (id : List ℕ) (life : Life) (lives : List Life) (t : Trace) (groups : List (List Event)) (handled : ℕ) (xs : List Sent) (contents : Contents) : Type 0 where
  pub ends : EndsLife id life lives t groups contents
  pub count : handled ≡ length ends.left.first
  pub last : List Sent
  pub items : xs ≡ ends.left.taken ++ last
  pub answered : last ≢ [] → ends.left.within.others ≡ []

abbrev pub EndsALifeAnswered : {T : Type 0} → Stopping T → Core T → List (List Event) → Core T → Driven → Type 0
EndsALifeAnswered d old groups new driven =
    (life : Life) (lives : List Life) (t : Trace) → IsUnderWay (id_of old) life lives t → Fits old t → JournalStands d old
    → (contents : Contents) → d.may_leave (twin_of (store_of new)) contents → EndsAnswered (id_of old) life lives t groups driven.handled driven.taken.items contents

-- a run that has just begun
abbrev pub born : Beginning → Life
born g = record { opening = g; moves = []; cut = [] }

-- A router that was opened on two files goes on from the runs to whose book they open.
abbrev pub GoesOnFrom : {T : Type 0} → Stopping T → List ℕ → Beginning → Contents → Core T → Type 0
GoesOnFrom d id opening contents core =
    (lives : List Life) (u : Trace) → Lives id lives u → OpensTo contents (book_in u)
    → IsUnderWay id (born opening) lives (opened opening u) × Fits core (opened opening u) × JournalStands d core
