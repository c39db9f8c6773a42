use Rattle.std.proofs.Common.{◌≡◌, ◌++◌}
use Rattle.std.specs.Prelude.{flat_map}
use Rattle.std.specs.Vec.Iter.{into_iter_items}
use Rattle.amqr_files.specs.Summaries.{act_lines}
use Rattle.amqr_files.proofs.summary.push_acts.Given as goal

abbrev pub invariant-loop-act : goal.invariant-loop-act
invariant-loop-act l = l.lines.items ++ flat_map act_lines (into_iter_items l.act-iterator) ≡ l.fn.lines.items ++ flat_map act_lines l.fn.acts.items
