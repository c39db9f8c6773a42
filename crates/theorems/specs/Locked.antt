-- What holds of a router under the lock, whatever its threads do: its history is a trace, so the laws of traces hold of
-- it.
use Rattle.std.specs.Prelude.{◌≡◌, ℕ, List, []}
use Rattle.disk_core.specs.Twin.{Contents}
use Rattle.router_trace.specs.Trace.{Beginning, Trace}
use Rattle.router_core.specs.declared.router.Core.{Core}
use Rattle.reply_rows.specs.Acts.{book_in}
use Rattle.router_core.specs.Handling.{id_of}
use Rattle.router_core.specs.Machine.{core_meaning}
use Rattle.core_machine.specs.History.{HasHistory}
use Rattle.theorems.specs.Carried.{HasSmallNumbers}
use Rattle.theorems.specs.Lives.{Life, Lives, AtEachEnd}

-- A kind of two files, by what the trait `Twin` says of them: what a read gives, what a stop may leave, how often they
-- failed.
pub record Kind (T : Type 0) : Type 1 where
  pub seen : T → Contents
  pub may_leave : T → Contents → Type 0
  pub failures : T → ℕ

abbrev pub kind : {T : Type 0} → (T → Contents) → (T → Contents → Type 0) → (T → ℕ) → Kind T
kind seen may_leave failures = record { seen = seen; may_leave = may_leave; failures = failures }

-- of the trace of each history that the lock keeps, by what the router was opened with
abbrev pub InHistories : {T : Type 0} → Kind T → (Beginning → Trace → Type 0) → Type 0
InHistories {T} d P =
    (g : Beginning) (core : Core T)
    (history : HasHistory (core_meaning d.seen d.may_leave d.failures) g core) → P g (history []).1

-- the same, whatever runs were before: the router was opened on the book that they left
abbrev pub AfterRuns : {T : Type 0} → Kind T → (Trace → Type 0) → Type 0
AfterRuns {T} d P =
    (g : Beginning) (core : Core T) (lives : List Life) (below : Trace) → Lives (id_of core) lives below → g.book ≡ book_in below
    → (history : HasHistory (core_meaning d.seen d.may_leave d.failures) g core) → P (history below).1

-- ... and if no run binds so many messages that a number takes more than 8 bytes
abbrev pub AfterSmallRuns : {T : Type 0} → Kind T → (Trace → Type 0) → Type 0
AfterSmallRuns {T} d P =
    (g : Beginning) (core : Core T) (lives : List Life) (below : Trace) (all : Lives (id_of core) lives below) → g.book ≡ book_in below
    → AtEachEnd HasSmallNumbers (id_of core) lives below all
    → (history : HasHistory (core_meaning d.seen d.may_leave d.failures) g core) → HasSmallNumbers (history below).1 → P (history below).1

-- of a history by itself, and on top of runs
abbrev pub UnderTheLock : {T : Type 0} → Kind T → (Beginning → Trace → Type 0) → (Trace → Type 0) → Type 0
UnderTheLock d P Q = InHistories d P × AfterRuns d Q

abbrev pub UnderTheLockIfSmall : {T : Type 0} → Kind T → (Beginning → Trace → Type 0) → (Trace → Type 0) → Type 0
UnderTheLockIfSmall d P Q = InHistories d P × AfterSmallRuns d Q
