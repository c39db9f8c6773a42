-- What a play writes, and how it ends.
use Rattle.std.specs.Prelude.{◌≡◌, map, is_some, ℕ, Bool, true, false, if◌then◌else◌, List, [], ◌∷◌, Option, Some, None, IfSome, Contains, ⊤, ◌⊎◌}
use Rattle.std.specs.List.{list_any}
use Rattle.std.specs.Io.KnownBytes.{Appends}
use Rattle.amqr_files.specs.Print.{Refuses, printed}
use Rattle.amqr_files.specs.declared.status.Status.{Status}
use Rattle.amqr_files.specs.declared.status.Status.TheVariants.{Done, BadInput, BadWords, Failed}
use Rattle.amqr_files.specs.declared.status.Refusal.TheVariants as refusal
use Rattle.route_table.specs.Settings.{Settings}
use Rattle.core_machine.specs.declared.fault.CoreFault.{CoreFault}
use Rattle.core_machine.specs.declared.fault.CoreFault.TheVariants as router
use Rattle.core_player.specs.Printing.{line_text}
use Rattle.router_play.specs.Script.{PlaysAll, new_journal, no_book}
use Rattle.core_player.specs.declared.line.Line.{Line}
use Rattle.core_player.specs.declared.line.Line.TheVariants as line
use Rattle.router_play.specs.declared.script.Report.{Report}
use Rattle.router_play.specs.declared.script.Run.{Run}
use Rattle.router_play.specs.declared.script.Stop.{Stop}
use Rattle.core_player.specs.declared.script.Step.{Step}
use Rattle.core_player.specs.declared.script.Step.TheVariants as step
use Rattle.amqr_commands.specs.Script.{HasRuns, IsFaulty}
use Rattle.amqr_commands.specs.declared.script.ScriptFault.TheVariants as fault

-- the steps of a run, and its stop
abbrev pub as_run : Run → List Step × Stop
as_run r = (r.steps.items, r.stop)

-- the steps of runs
abbrev pub steps_of : List (List Step × Stop) → List (List Step)
steps_of runs = map (λ r. r.0) runs

-- steps set a fuse
abbrev pub is_fuse : Step → Bool
is_fuse (step.Fuse calls) = true
is_fuse _ = false

abbrev pub sets_fuse : List (List Step × Stop) → Bool
sets_fuse runs = list_any (λ r. list_any is_fuse r.0) runs

-- The status of a play whose router failed with this fault, if it did: where the steps set a fuse, it is the fuse that made the disk fail.
abbrev pub end_by : Bool → Option CoreFault → Status
end_by fused None = Done
end_by fused (Some router.Disk) = if fused then Done else Failed
end_by fused (Some fault) = Failed

-- the status that a report gives
abbrev pub end_of : {C : Type 0} → Bool → Report C → Status
end_of fused r = if is_some r.halted then Failed else end_by fused r.failed

-- these lines were written
abbrev pub Writes : List Line → Option (List ℕ) → Option (List ℕ) → Type 0
Writes lines old new = IfSome (printed (λ x. Some (line_text x)) lines) (Appends old new)

-- the lines of a play of these runs were written, against routers with this configuration, the line of the last one's book being the last
abbrev pub WritesPlay : Settings → List (List Step × Stop) → Option (List ℕ) → Option (List ℕ) → Type 0
WritesPlay config runs old new = (lines : List Line) × PlaysAll config 1 new_journal (steps_of runs) no_book lines × Writes lines old new

-- these runs set a fuse, and among the lines written is the one that tells of a failed disk
abbrev pub WritesFailure : List (List Step × Stop) → Option (List ℕ) → Option (List ℕ) → Type 0
WritesFailure runs old new = (sets_fuse runs ≡ true) × (lines : List Line) × Contains lines (line.Failed router.Disk) × Writes lines old new

-- how a play of runs ends: it is done, to the end or up to a fuse, or the router or memory failed
abbrev pub PlaysRuns : Settings → List (List Step × Stop) → Status → Option (List ℕ) → Option (List ℕ) → Type 0
PlaysRuns config runs Done old new = WritesPlay config runs old new ⊎ WritesFailure runs old new
PlaysRuns config runs BadInput old new = ⊥
PlaysRuns config runs BadWords old new = ⊥
PlaysRuns config runs Failed old new = ⊤

-- how the play of a text ends: a script was played and its lines were written; otherwise its first faulty line is reported
abbrev pub Plays : Settings → List ℕ → Status → Option (List ℕ) → Option (List ℕ) → Type 0
Plays config text Done old new = (runs : List (List Step × Stop)) × HasRuns text runs × PlaysRuns config runs Done old new
Plays config text BadInput old new = (n : ℕ) × IsFaulty text (fault.Line n) × Refuses (refusal.Script n) old new
Plays config text BadWords old new = ⊥
Plays config text Failed old new = ⊤

-- the same for a reader with these bytes left, where they are known; `file` is reported where they can't be read to their end
abbrev pub PlaysInput : Settings → Option (List ℕ) → Status → Option (List ℕ) → Option (List ℕ) → Type 0
PlaysInput config None status old new = ⊤
PlaysInput config (Some text) status old new = Plays config text status old new ⊎ ((status ≡ BadInput) × Refuses refusal.File old new)
