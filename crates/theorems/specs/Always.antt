-- What always holds: in every trace of the router, and so of all groups of events, and of every script of bytes; and over runs that end by stops.
use Rattle.std.specs.Prelude.{ℕ, List}
use Rattle.route_table.specs.Settings.{Settings}
use Rattle.book_model.specs.Sound.{IsSound}
use Rattle.router_trace.specs.declared.event.Event.{Event}
use Rattle.router_trace.specs.Trace.{Trace, Beginning}
use Rattle.router_trace.specs.Configuration.{beginning}
use Rattle.router_core.specs.Moves.{IsTrace}
use Rattle.core_machine.specs.Moves.{Move}
use Rattle.core_runs.specs.declared.driving.Sent.{Sent}
use Rattle.core_runs.specs.Runs.{Run}
use Rattle.core_player.specs.declared.script.Step.{Step}
use Rattle.router_play.specs.Script.{Scene, opening, Plays}
use Rattle.theorems.specs.Lives.{GoesInTurn, InLives}

-- in every trace of the router
abbrev pub InTraces : (Trace → Type 0) → Type 0
InTraces P = (id : List ℕ) (g : Beginning) (u : Trace) → IsTrace id g u → P u

-- in the trace of all groups of events, the outboxes emptied after each
abbrev pub InRuns : (Trace → Type 0) → Type 0
InRuns P =
    (id : List ℕ) (g : Beginning) (groups : List (List Event)) (xs : List Sent) (u : Trace)
    → Run id 0 (beginning g) groups xs u → P u

-- in one run, whatever happens
abbrev pub InOneRun : (Trace → Type 0) → Type 0
InOneRun P = InTraces P × InRuns P

-- in one run, and over every list of runs, each ended by a stop
abbrev pub Always : (Trace → Type 0) → Type 0
Always P = InOneRun P × InLives P

-- in the trace of every script of bytes, whatever the peers send
abbrev pub InScripts : (Trace → Type 0) → Type 0
InScripts P = (config : Settings) (steps : List Step) (u : Scene) → Plays steps (opening config) u → P u.trace

-- the same of what holds by what the router was opened with
abbrev pub InTracesFrom : (Beginning → Trace → Type 0) → Type 0
InTracesFrom P = (id : List ℕ) (g : Beginning) (u : Trace) → IsTrace id g u → P g u

abbrev pub InRunsFrom : (Beginning → Trace → Type 0) → Type 0
InRunsFrom P =
    (id : List ℕ) (g : Beginning) (groups : List (List Event)) (xs : List Sent) (u : Trace)
    → Run id 0 (beginning g) groups xs u → P g u

abbrev pub AlwaysFrom : (Beginning → Trace → Type 0) → Type 0
AlwaysFrom P = InTracesFrom P × InRunsFrom P

-- in every trace of the router in which no event is declined, and of all groups of events
abbrev pub InTracesInTurn : (Beginning → Trace → Type 0) → Type 0
InTracesInTurn P =
    (id : List ℕ) (g : Beginning) (u : Trace) (moves : List Move) → GoesInTurn id moves (beginning g) u → P g u

abbrev pub AlwaysInTurn : (Beginning → Trace → Type 0) → Type 0
AlwaysInTurn P = InTracesInTurn P × InRunsFrom P

-- where the router was opened on a sound book: its numbers rise, no limit is passed, and the termini that rows keep
-- stand, as in each book of a journal, whether acts made it or it was read back
abbrev pub OnSound : (Beginning → Trace → Type 0) → Beginning → Trace → Type 0
OnSound P g u = IsSound g.book → P g u

-- in one run that began so, and over every list of runs: these begin with an empty book, and each next run with the book
-- that the last one left
abbrev pub AlwaysOnSound : (Trace → Type 0) → Type 0
AlwaysOnSound P = AlwaysFrom (OnSound (λ g u. P u)) × InLives P
