use Rattle.std.proofs.Common.{◌≡◌, subst, List}
use Rattle.std.specs.Prelude.{map, None}
use Rattle.core_player.specs.declared.script.Step.{Step}
use Rattle.router_play.specs.Script.{PlaysAll, new_journal, no_book}
use Rattle.router_play.proofs.Stops.{new_holds}
use Rattle.amqr_commands.specs.Running.{as_run, steps_of}
use Rattle.amqr_commands.proofs.Played.{played, steps_as}
use Rattle.amqr_commands.proofs.program.play_script.Goals as goal

pub returns-in-Ok : goal.returns-in-Ok
returns-in-Ok g c =
    played c.args.config (map as_run c.args.runs.now) c.play_runs-report.result c.sets_fuse.result _ _ c.print_report.result c.sets_fuse.ensures
    (λ done none. subst (λ (ss : List (List Step)). PlaysAll c.args.config 1 new_journal ss no_book c.play_runs-report.result.lines.items) (steps_as c.args.runs.now)
    (c.play_runs-report.ensures.plays done none new_journal (new_holds _ c.in-Ok.ensures.empty)))
    c.play_runs-report.ensures.told c.print_report.ensures.status c.print_report.ensures.lines
