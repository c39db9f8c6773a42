use Rattle.std.proofs.Common.{◌≡◌, take}
use Rattle.std.specs.Prelude.{sum_by}
use Rattle.gate_journal.specs.Reserve.{growth}
use Rattle.gate_journal.proofs.figures.growth_by.Given as goal

abbrev pub invariant-loop-act : goal.invariant-loop-act
invariant-loop-act l = l.total ≡ sum_by growth (take l.act-index l.acts)
