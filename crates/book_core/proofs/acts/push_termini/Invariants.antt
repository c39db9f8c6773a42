use Rattle.std.proofs.Common.{◌≡◌, ◌++◌, map, drop}
use Rattle.book_model.specs.declared.act.Act.TheVariants.{Make}
use Rattle.book_core.specs.Slots.{termini_in}
use Rattle.book_core.proofs.acts.push_termini.Given as goal

abbrev pub invariant-loop-slot : goal.invariant-loop-slot
invariant-loop-slot l = l.acts.items ++ map Make (termini_in (drop l.slot-index l.slots))
    ≡ l.fn.acts.items ++ map Make (termini_in l.slots)
