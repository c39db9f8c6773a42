use Rattle.std.proofs.Common.{◌≡◌, ◌+◌, ◌-◌, ◌*◌}
use Rattle.amqp_types.specs.Reading.{to, body_at, value_by, one_by, items_at, pairs_at}
use Rattle.amqp_types.proofs.Loops.{items_before, pairs_before}
use Rattle.amqp_types.proofs.decoder.+read.Given as goal

abbrev pub decreases-body_of : goal.decreases-body_of
decreases-body_of l = 5 * l.depth

abbrev pub decreases-value_of : goal.decreases-value_of
decreases-value_of l = 5 * l.depth + 1

abbrev pub decreases-one_of : goal.decreases-one_of
decreases-one_of l = 5 * l.depth + 2

abbrev pub decreases-pair_of : goal.decreases-pair_of
decreases-pair_of l = 5 * l.depth + 2

abbrev pub decreases-items_of : goal.decreases-items_of
decreases-items_of l = 5 * l.depth + 3

abbrev pub decreases-pairs_of : goal.decreases-pairs_of
decreases-pairs_of l = 5 * l.depth + 3

abbrev pub decreases-list_of : goal.decreases-list_of
decreases-list_of l = 5 * l.depth + 4

abbrev pub decreases-map_of : goal.decreases-map_of
decreases-map_of l = 5 * l.depth + 4

abbrev pub decreases-array_of : goal.decreases-array_of
decreases-array_of l = 5 * l.depth + 4

abbrev pub decreases-described_of : goal.decreases-described_of
decreases-described_of l = 5 * l.depth + 4

abbrev pub invariant-items_of-loop : goal.invariant-items_of-loop
invariant-items_of-loop l = to (items_before l.items.items) (items_at (one_by (body_at l.depth) l.element) (l.count - l.counter) l.rest) ≡ items_at (one_by (body_at l.depth) l.element) l.count l.bytes

abbrev pub invariant-pairs_of-loop : goal.invariant-pairs_of-loop
invariant-pairs_of-loop l = to (pairs_before l.pairs.items) (pairs_at (value_by (body_at l.depth)) (l.count - l.counter) l.rest) ≡ pairs_at (value_by (body_at l.depth)) l.count l.bytes
