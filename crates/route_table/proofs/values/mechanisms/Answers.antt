use Rattle.std.proofs.Common.{sym, ◌∙◌}
use Rattle.route_table.proofs.Numbers.{mechanisms_start, part_stops, part_found, part_skipped}
use Rattle.route_table.proofs.values.mechanisms.Goals as goal
use Rattle.route_table.proofs.values.mechanisms.Goals.{then-not-is_empty+in-Some+in_ok-push-in-Some, else-not-is_empty}

pub loop-part-init : goal.loop-part-init
loop-part-init c = rw (c.deref-part-items.ensures.value, c.new-found.ensures.items) (mechanisms_start _ c.args.value.now c.in_ok-parts.ensures)

pub returns-in-None : goal.returns-in-None
returns-in-None c =
    part_stops c.loop-part.found.items c.deref-part-items.result.now c.loop-part.part-index c.args.value.now c.loop-part-test.true c.loop-part.invariant
    (sym c.is_empty.ensures ∙ c.if-not-is_empty.true) (sym c.in-None.ensures)

pub loop-part-preserved : goal.loop-part-preserved
loop-part-preserved c = elim c.if-not-is_empty.branch [
  | then-not-is_empty+in-Some+in_ok-push-in-Some w ↦ rw w.found-is
      (part_found c.loop-part.found.items c.deref-part-items.result.now c.loop-part.part-index c.args.value.now c.loop-part-test.true c.loop-part.invariant w.in-Some.one _
      (sym w.if-not-is_empty.ensures) (sym w.in-Some.ensures) w.in_ok-push-in-Some.ensures.items)
  | else-not-is_empty w ↦ rw w.found-is
      (part_skipped c.loop-part.found.items c.deref-part-items.result.now c.loop-part.part-index c.args.value.now c.loop-part-test.true c.loop-part.invariant (sym w.if-not-is_empty.ensures))
]
