-- How a play ends, by its report.
use Rattle.std.proofs.Common.{◌≡◌, refl, sym, ap, subst, Bool, true, false, List, [], ◌∷◌, inl, inr}
use Rattle.std.specs.Prelude.{is_some, map, Option, Some, None, Result, Ok, Err, IfOk, OnOk, ℕ, if◌then◌else◌}
use Rattle.amqr_files.specs.declared.status.Status.{Status}
use Rattle.amqr_files.specs.declared.status.Status.TheVariants.{Failed}
use Rattle.route_table.specs.Settings.{Settings}
use Rattle.core_machine.specs.declared.fault.CoreFault.{CoreFault}
use Rattle.core_machine.specs.declared.fault.CoreFault.TheVariants as router
use Rattle.router_play.specs.Script.{PlaysAll, new_journal, no_book}
use Rattle.router_play.specs.Ending.{TellsOf}
use Rattle.core_player.specs.declared.line.Line.{Line}
use Rattle.router_play.specs.declared.script.Report.{Report}
use Rattle.router_play.specs.declared.script.Run.{Run}
use Rattle.core_player.specs.declared.script.Step.{Step}
use Rattle.router_play.specs.declared.script.Stop.{Stop}
use Rattle.gate_journal.specs.declared.fault.OpenFault.{OpenFault}
use Rattle.amqr_commands.specs.Running.{PlaysRuns, Writes, as_run, sets_fuse, steps_of, end_by, end_of}

-- by what halted the play, and the fault of the router
by_fault : (config : Settings) (runs : List (List Step × Stop)) (lines : List Line) (old new : Option (List ℕ)) (halted : Option OpenFault) (fault : Option CoreFault) (fused : Bool)
    → fused ≡ sets_fuse runs → (halted ≡ None → fault ≡ None → PlaysAll config 1 new_journal (steps_of runs) no_book lines) → (halted ≡ None → TellsOf fault lines)
    → (halted ≡ None → Writes lines old new) → PlaysRuns config runs (if is_some halted then Failed else end_by fused fault) old new
by_fault config runs lines old new (Some why) fault fused sets plays told writes = tt
by_fault config runs lines old new None None fused sets plays told writes = inl (lines, plays refl refl, writes refl)
by_fault config runs lines old new None (Some router.Disk) true sets plays told writes = inr (sym sets, lines, told refl, writes refl)
by_fault config runs lines old new None (Some router.Disk) false sets plays told writes = tt
by_fault config runs lines old new None (Some router.Memory) fused sets plays told writes = tt
by_fault config runs lines old new None (Some router.Failed) fused sets plays told writes = tt
by_fault config runs lines old new None (Some router.NoConnection) fused sets plays told writes = tt

pub played : {C E : Type 0} (config : Settings) (runs : List (List Step × Stop)) (report : Report C) (fused : Bool) (old new : Option (List ℕ)) (result : Result Status E)
    → fused ≡ sets_fuse runs → (report.halted ≡ None → report.failed ≡ None → PlaysAll config 1 new_journal (steps_of runs) no_book report.lines.items)
    → (report.halted ≡ None → TellsOf report.failed report.lines.items) → IfOk result (λ status. status ≡ end_of fused report)
    → (report.halted ≡ None → OnOk result (Writes report.lines.items old new)) → IfOk result (λ status. PlaysRuns config runs status old new)
played config runs report fused old new (Ok status) sets plays told ends writes =
    subst (λ (s : Status). PlaysRuns config runs s old new) (sym ends)
    (by_fault config runs report.lines.items old new report.halted report.failed fused sets plays told writes)
played config runs report fused old new (Err e) sets plays told ends writes = tt

-- the steps of runs
pub steps_as : (runs : List Run) → map (λ r. r.steps.items) runs ≡ steps_of (map as_run runs)
steps_as [] = refl
steps_as (r ∷ rs) = ap (λ (ss : List (List Step)). r.steps.items ∷ ss) (steps_as rs)
