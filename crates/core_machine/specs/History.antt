-- What happened to a router since it was opened: the events that it handled and the batches that were taken, in one order; and where its
-- journal stands by them.
use Rattle.std.specs.Prelude.{◌≡◌, ◌⊎◌, ℕ, true, false, List, [], ◌∷◌, ◌++◌, map}
use Rattle.book_model.specs.Sound.{IsSound}
use Rattle.router_trace.specs.declared.event.ConnectionId.{ConnectionId}
use Rattle.router_trace.specs.declared.event.Event.{Event}
use Rattle.router_trace.specs.Trace.{Beginning, Step, Trace}
use Rattle.router_trace.specs.Configuration.{opened}
use Rattle.router_trace.specs.Connection.{conn}
use Rattle.core_machine.specs.declared.answers.Batch.{Batch}
use Rattle.core_machine.specs.declared.counts.Counts.{Counts}
use Rattle.core_machine.specs.Counting.{uncounted, with_event, with_batch}
use Rattle.core_machine.specs.Meaning.{Meaning, BookAt, EitherOf, IsBatchOf}
use Rattle.core_machine.specs.Moves.{Move, handles, takes, GoesInTurnBy}
use Rattle.core_machine.specs.Opened.{IsOpened}
use Rattle.core_machine.specs.Turns.{declines}

-- the counts after these moves: one more for each event, by kind, and for each take
abbrev pub tally : List Move → Counts → Counts
tally [] n = n
tally (handles s ∷ ms) n = tally ms (with_event s.event n)
tally (takes x ∷ ms) n = tally ms (with_batch n)

-- Of these moves, from this trace on to that one, the last ones are events: nothing was taken since the trace before them.
pub record EndsInEvents {M : Type 0} (m : Meaning M) (router : M) (from : Trace) (moves : List Move) (t : Trace) : Type 0 where
  pub first : List Move
  pub events : List Step
  pub parts : moves ≡ first ++ map handles events
  pub written : Trace
  pub goes : GoesInTurnBy (m.next (m.id router)) first from written
  pub goes_on : GoesInTurnBy (m.next (m.id router)) (map handles events) written t

-- the files keep the book before some last events, of which nothing was taken, and the batches of these events are held
abbrev pub IsBehind : {M : Type 0} → Meaning M → M → Trace → List Move → Trace → Type 0
IsBehind m router from moves t = (parts : EndsInEvents m router from moves t) × m.holds router (m.book parts.written)

-- whatever a crash leaves opens to the book before some last events, of which nothing was taken, or to the book after them
abbrev pub LeavesEither : {M : Type 0} → Meaning M → M → Trace → List Move → Trace → Type 0
LeavesEither m router from moves t = (parts : EndsInEvents m router from moves t) × m.leaves router (EitherOf (m.book parts.written) (m.book t))

-- where the journal of a router that failed stands: it has the events that were held, or it hasn't; or a last event was cut off, and whatever a crash leaves
-- opens to the book of the trace, or to that book after the acts of the last event
abbrev pub IsCutOff : {M : Type 0} → Meaning M → M → Trace → List Move → Trace → Type 0
IsCutOff m router from moves t = LeavesEither m router from moves t ⊎ ((e : Event) × (declines t e ≡ false) × m.leaves router (BookAt m t e))

-- These moves, one after another, since the router was opened so, on a sound book, on top of what was before: they give this trace, and each is counted
-- once. While the router works, its tables and its book are those of the trace, and its journal keeps that book, but for the last events of which nothing
-- was taken yet: it may hold their batches.
pub record IsHistory {M : Type 0} (m : Meaning M) (g : Beginning) (below : Trace) (router : M) (moves : List Move) (t : Trace) : Type 0 where
  pub goes : GoesInTurnBy (m.next (m.id router)) moves (opened g below) t
  pub counted : m.counts router ≡ tally moves uncounted
  pub sound : IsSound g.book
  pub works : m.is_failed router ≡ false → m.fits router t × IsBehind m router (opened g below) moves t
  pub failed : m.is_failed router ≡ true → IsCutOff m router (opened g below) moves t

abbrev pub HasHistoryOn : {M : Type 0} → Meaning M → Beginning → Trace → M → Type 0
HasHistoryOn m g below router = (moves : List Move) × (t : Trace) × IsHistory m g below router moves t

-- whatever was before
abbrev pub HasHistory : {M : Type 0} → Meaning M → Beginning → M → Type 0
HasHistory m g router = (below : Trace) → HasHistoryOn m g below router

-- such a history, and its journal keeps the book of the trace: nothing is held
abbrev pub HasKeptOn : {M : Type 0} → Meaning M → Beginning → Trace → M → Type 0
HasKeptOn m g below router = (lived : HasHistoryOn m g below router) × m.keeps router (m.book lived.1)

abbrev pub HasKept : {M : Type 0} → Meaning M → Beginning → M → Type 0
HasKept m g router = (below : Trace) → HasKeptOn m g below router

-- The number of the last batch in the journal of a router that was just opened so.
pub record IsFirstBatch {M : Type 0} (m : Meaning M) (g : Beginning) (number : ℕ) : Type 0 where
  pub router : M
  pub was : IsOpened m g router
  pub batch : m.batches router ≡ number

-- A take gives this batch of a connection at some moment of a history that begins so: 64 first items of its outbox at
-- most, as the trace of that moment has them.
pub record IsGivenOn {M : Type 0} (m : Meaning M) (g : Beginning) (below : Trace) (c : ConnectionId) (b : Batch)
    : Type 0 where
  pub id : List ℕ
  pub moves : List Move
  pub at : Trace
  pub goes : GoesInTurnBy (m.next id) moves (opened g below) at
  pub batch : IsBatchOf (conn at c.0) 64 b

-- whatever was before
abbrev pub IsGiven : {M : Type 0} → Meaning M → Beginning → ConnectionId → Batch → Type 0
IsGiven m g c b = (below : Trace) → IsGivenOn m g below c b
