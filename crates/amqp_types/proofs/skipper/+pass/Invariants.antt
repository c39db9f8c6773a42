use Rattle.std.proofs.Common.{◌≡◌, ◌+◌, ◌-◌, ◌*◌}
use Rattle.amqp_types.specs.Reading.{after, body_at, value_by, one_by, items_at, pairs_at}
use Rattle.amqp_types.proofs.skipper.+pass.Given as goal

abbrev pub decreases-pass_body : goal.decreases-pass_body
decreases-pass_body l = 5 * l.depth

abbrev pub decreases-skip_at : goal.decreases-skip_at
decreases-skip_at l = 5 * l.depth + 1

abbrev pub decreases-pass_one : goal.decreases-pass_one
decreases-pass_one l = 5 * l.depth + 2

abbrev pub decreases-pass_pair : goal.decreases-pass_pair
decreases-pass_pair l = 5 * l.depth + 2

abbrev pub decreases-pass_items : goal.decreases-pass_items
decreases-pass_items l = 5 * l.depth + 3

abbrev pub decreases-pass_pairs : goal.decreases-pass_pairs
decreases-pass_pairs l = 5 * l.depth + 3

abbrev pub decreases-pass_list : goal.decreases-pass_list
decreases-pass_list l = 5 * l.depth + 4

abbrev pub decreases-pass_map : goal.decreases-pass_map
decreases-pass_map l = 5 * l.depth + 4

abbrev pub decreases-pass_array : goal.decreases-pass_array
decreases-pass_array l = 5 * l.depth + 4

abbrev pub decreases-pass_described : goal.decreases-pass_described
decreases-pass_described l = 5 * l.depth + 4

abbrev pub invariant-pass_items-loop : goal.invariant-pass_items-loop
invariant-pass_items-loop l = after (items_at (one_by (body_at l.depth) l.element) (l.count - l.counter) l.rest) ≡ after (items_at (one_by (body_at l.depth) l.element) l.count l.bytes)

abbrev pub invariant-pass_pairs-loop : goal.invariant-pass_pairs-loop
invariant-pass_pairs-loop l = after (pairs_at (value_by (body_at l.depth)) (l.count - l.counter) l.rest) ≡ after (pairs_at (value_by (body_at l.depth)) l.count l.bytes)
