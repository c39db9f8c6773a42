-- The router as a whole against a trace.
use Rattle.std.specs.Prelude.{◌≡◌, ◌⊎◌, ℕ, Bool, true, false, if◌then◌else◌, List, [], ◌∷◌, Option}
use Rattle.book_model.specs.declared.act.Act.{Act}
use Rattle.book_model.specs.Book.{BookView}
use Rattle.journal_store.specs.declared.store.Store.{Store}
use Rattle.disk_core.specs.Twin.{Contents}
use Rattle.journal_store.specs.Store.{OpensTo, IsSuited, book_of, count_of, exceeds}
use Rattle.router_core.specs.declared.router.Core.{Core}
use Rattle.core_machine.specs.declared.counts.Counts.{Counts}
use Rattle.amqp_conn.specs.declared.conn.Conn.{Conn}
use Rattle.router_trace.specs.declared.event.Event.{Event}
use Rattle.router_trace.specs.declared.event.Event.TheVariants as event
use Rattle.router_trace.specs.Sessions.{theirs, maps}
use Rattle.state_links.specs.Fits.{channel_of}
use Rattle.reply_rows.specs.declared.answer.Answer.{Answer}
use Rattle.reply_rows.specs.declared.answer.Answer.TheVariants.{Taken}
use Rattle.router_trace.specs.Trace.{Trace, Booked, did}
use Rattle.router_trace.specs.Connection.{due, phase_before, phase_found}
use Rattle.router_state.specs.declared.tables.State.{State}
use Rattle.router_state.specs.Tables.{TablesAt, TablesFit}
use Rattle.reply_rows.specs.Acts.{journaled, book_found, book_in, book_after_event, answer_to_event}
use Rattle.reply_rows.specs.Admitting.{ChoseUnlessEnds}
use Rattle.router_reply.specs.Heard.{IsHeard}
use Rattle.reply_rows.specs.Resuming.{Resumes}
use Rattle.router_reply.specs.declared.heard.Heard.{Heard}
use Rattle.reply_rows.specs.declared.plan.Plan.{Plan}
use Rattle.reply_rows.specs.Planning.{IsPlan}
use Rattle.core_machine.specs.Turns.{is_started, declines}

-- a router's journal agrees with the trace: its book, and how many batches it has; and it knows what the book needs
pub record Journals {T : Type 0} (core : Core T) (t : Trace) : Type 0 where
  pub book : book_of core.store ≡ book_in t
  pub batches : count_of core.store ≡ (journaled t).batches
  pub suits : IsSuited core.store

-- the router agrees with the trace: its tables, whether it was started, and its journal
pub record Fits {T : Type 0} (core : Core T) (t : Trace) : Type 0 where
  pub tables : TablesFit core.state t
  pub started : core.started ≡ is_started t
  pub journal : Journals core t

-- an event isn't declined, and this is the phase of its item's connection before it
pub record IsTaken (t : Trace) (e : Event) (before : Option Conn) : Type 0 where
  pub taken : declines t e ≡ false
  pub phase : before ≡ phase_before t e

-- An event was decided: its tables and its book are those of the trace before it, but for the connections that it ends first.
pub record IsDecided {T : Type 0} (core : Core T) (t : Trace) (e : Event) (p : Plan) : Type 0 where
  pub taken : declines t e ≡ false
  pub tables : (acts : List Act) → TablesAt core.state (Booked acts (due t e) ∷ t) e p.ends.items
  pub before : TablesAt core.state t e p.ends.items
  pub plan : IsPlan (book_of core.store) t e p
  pub journal : Journals core t

-- An event was heard in tables that agreed with the trace, and nothing was put: what is ready for its answer.
pub record IsReady (s : State) (t : Trace) (e : Event) (p : Plan) (h : Heard) : Type 0 where
  pub tables : TablesFit s (did e ∷ t)
  pub ends : p.ends.items ≡ due t e
  pub phase : p.phase ≡ phase_found t e
  pub answer : p.answer ≡ answer_to_event t e
  pub heard : IsHeard t e p.answer h
  pub resumed : Resumes (book_found t) t e p.answer p.resumption
  pub chosen : ChoseUnlessEnds p.ends.items (did e ∷ t) e p.answer p.consumer

-- a transfer that is taken is one on the session for which its channel stands
abbrev pub TakenHere : (ℕ → Bool) → Answer → Type 0
TakenHere here (Taken own handle) = here own ≡ true
TakenHere here _ = Unit {0}

abbrev pub TakenIn : Trace → Event → Answer → Type 0
TakenIn t (event.Item d i) answer = TakenHere (maps (theirs t d.0 (channel_of i))) answer
TakenIn t _ answer = Unit {0}

-- The acts of an event: those that were planned; if there are none, those of an admission, if the journal has room.
abbrev pub within : Bool → List Act → List Act
within true acts = []
within false acts = acts

abbrev pub or_within : BookView → List Act → List Act → List Act
or_within b [] admitted = within (exceeds b admitted) admitted
or_within b (act ∷ acts) admitted = act ∷ acts

abbrev pub with_admission : Bool → BookView → List Act → List Act → List Act
with_admission full b acts admitted = if full then acts else or_within b acts admitted

-- An event finds the journal full: by what is planned; or, if nothing is, by an admission that exceeds the room.
abbrev pub or_exceeds : BookView → List Act → List Act → Bool
or_exceeds b [] admitted = exceeds b admitted
or_exceeds b (act ∷ acts) admitted = false

abbrev pub full_with : Bool → BookView → List Act → List Act → Bool
full_with full b acts admitted = if full then true else or_exceeds b acts admitted

-- it failed with a fault of the disk or of memory, and answers nothing else
abbrev pub is_failed : {T : Type 0} → Core T → Bool
is_failed core = core.failed

-- its container-id
abbrev pub id_of : {T : Type 0} → Core T → List ℕ
id_of core = core.id

-- its store, the book of that, and its tables
abbrev pub store_of : {T : Type 0} → Core T → Store T
store_of core = core.store

abbrev pub kept_book : {T : Type 0} → Core T → BookView
kept_book core = book_of core.store

abbrev pub state_of : {T : Type 0} → Core T → State
state_of core = core.state

-- how many events it handled, and how many batches it returned
abbrev pub counts_of : {T : Type 0} → Core T → Counts
counts_of core = core.counts

-- two files open to the book before an event, or to the book after it
abbrev pub BeforeOrAfterEvent : Trace → Event → Contents → Type 0
BeforeOrAfterEvent t e contents = OpensTo contents (book_in t) ⊎ OpensTo contents (book_after_event t e)

-- the book before an event, or the one after it: what a fault leaves
abbrev pub LeftBook : Trace → Event → BookView → Type 0
LeftBook t e book = (book ≡ book_in t) ⊎ (book ≡ book_after_event t e)
