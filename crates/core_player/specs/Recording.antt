-- What a router did since it was opened, as it is recorded.
use Rattle.std.specs.Prelude.{◌≡◌, ℕ, true, false, List, Option, Some, None, unwrap_or}
use Rattle.std.specs.Ordering.{nat_cmp}
use Rattle.std.specs.BTreeMap.{get}
use Rattle.router_trace.specs.declared.event.Event.{Event}
use Rattle.router_trace.specs.Trace.{Beginning, Trace}
use Rattle.router_trace.specs.Configuration.{opened}
use Rattle.core_machine.specs.declared.fault.CoreFault.{CoreFault}
use Rattle.core_machine.specs.declared.fault.CoreFault.TheVariants.{Disk, Memory, Failed, NoConnection}
use Rattle.core_machine.specs.Meaning.{Meaning, KeptAt}
use Rattle.core_machine.specs.Moves.{Move, GoesInTurnBy}
use Rattle.core_machine.specs.Opened.{IsOpened}
use Rattle.core_machine.specs.Turns.{declines}
use Rattle.core_player.specs.declared.entry.Came.{Came}
use Rattle.core_player.specs.declared.entry.Entry.{Entry}
use Rattle.core_player.specs.declared.recorder.Cut.{Cut}
use Rattle.core_player.specs.declared.recorder.Recorder.{Recorder}
use Rattle.core_player.specs.Entries.{Shows, came_of, waits}

-- how many items wait in each outbox
abbrev pub lengths_of : Recorder → ℕ → ℕ
lengths_of r c = unwrap_or (get nat_cmp r.lengths c) 0

-- the event with which a router failed, once it answered this one with this fault
abbrev pub cut_after : Option Cut → CoreFault → Came → ℕ → Option Cut
cut_after old Disk came n = Some (record { came = came; batches = n })
cut_after old Memory came n = Some (record { came = came; batches = n })
cut_after old Failed came n = old
cut_after old NoConnection came n = old

-- A router that works agrees with a trace, and its journal keeps the book of it.
pub record IsAt {M : Type 0} (m : Meaning M) (router : M) (t : Trace) (r : Recorder) : Type 0 where
  pub fits : m.fits router t
  pub keeps : m.keeps router (m.book t)
  pub lengths : (c : ℕ) → lengths_of r c ≡ waits t c
  pub uncut : r.cut ≡ None

-- Where a router failed with an event, what a crash leaves is the journal before that, or this with one batch more, of the event's acts; where it failed
-- with a take, the journal keeps the book of the trace.
abbrev pub IsLeft : {M : Type 0} → Meaning M → M → Trace → Option Cut → Type 0
IsLeft m router t None = m.keeps router (m.book t)
IsLeft m router t (Some cut) =
    (e : Event) × (cut.came ≡ came_of e) × (declines t e ≡ false) × m.leaves_journal router (KeptAt m cut.batches t e)

-- These moves, since the router was opened so on top of what was before, lead to this trace, and show these entries. And where the router stands by them.
pub record IsRecord {M : Type 0} (m : Meaning M) (g : Beginning) (below : Trace) (router : M) (entries : List Entry) (moves : List Move) (t : Trace) : Type 0 where
  pub goes : GoesInTurnBy (m.next (m.id router)) moves (opened g below) t
  pub shows : Shows (m.next (m.id router)) m.acts moves (opened g below) entries

pub record RecordedOn {M : Type 0} (m : Meaning M) (g : Beginning) (below : Trace) (router : M) (r : Recorder) : Type 0 where
  pub moves : List Move
  pub at : Trace
  pub is : IsRecord m g below router r.entries.items moves at
  pub works : m.is_failed router ≡ false → IsAt m router at r
  pub fails : m.is_failed router ≡ true → IsLeft m router at r.cut

-- A router was this one before. What it did since it was opened is recorded, whatever was before.
pub record Recorded {M : Type 0} (m : Meaning M) (first now : M) (r : Recorder) : Type 0 where
  pub named : m.id now ≡ m.id first
  pub on : (g : Beginning) → IsOpened m g first → (below : Trace) → RecordedOn m g below now r

-- The same of a play that ended, by the entries that it showed and the event with which its router failed.
pub record ShownOn {M : Type 0} (m : Meaning M) (g : Beginning) (below : Trace) (router : M) (cut : Option Cut) (entries : List Entry) : Type 0 where
  pub moves : List Move
  pub at : Trace
  pub is : IsRecord m g below router entries moves at
  pub left : IsLeft m router at cut

pub record Shown {M : Type 0} (m : Meaning M) (first now : M) (cut : Option Cut) (entries : List Entry) : Type 0 where
  pub named : m.id now ≡ m.id first
  pub on : (g : Beginning) → IsOpened m g first → (below : Trace) → ShownOn m g below now cut entries
