use Rattle.std.proofs.Common.{ap}
use Rattle.std.specs.Prelude.{slice_get}
use Rattle.state_deliveries.proofs.by_rank.first_entry.Goals as goal

pub returns-in-None : goal.returns-in-None
returns-in-None c = λ q from.
    let range = c.range-above.ensures.in_range tt in
    range.5 c.in-None.ensures.steps.0 q (from, tt)

pub returns-in-Some : goal.returns-in-Some
returns-in-Some c =
    let range = c.range-above.ensures.in_range tt in
    let first = ap (λ r. slice_get r 0) c.in-Some.ensures.steps in
    let here = rw first at range.1 in
    (here.0.0, here.1, λ q from there. rw first at (range.2 q (from, tt) there))
