use Rattle.std.proofs.Common.{◌≡◌, ◌++◌, []}
use Rattle.std.specs.Prelude.{map}
use Rattle.std.specs.Vec.Iter.{into_iter_items}
use Rattle.amqr_commands.specs.Running.{as_run}
use Rattle.amqr_commands.specs.Script.{runs_from}
use Rattle.amqr_commands.proofs.script.runs_of.Given as goal

abbrev pub invariant-loop-instruction : goal.invariant-loop-instruction
invariant-loop-instruction l = map as_run l.runs.items ++ runs_from l.steps.items (into_iter_items l.instruction-iterator) ≡ runs_from [] l.fn.instructions.items
