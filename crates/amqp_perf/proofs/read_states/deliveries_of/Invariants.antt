use Rattle.std.proofs.Common.{◌≡◌, ◌-◌, []}
use Rattle.amqp_perf.specs.Places.{at_of}
use Rattle.amqp_perf.specs.States.{deliveries_at}
use Rattle.amqp_perf.specs.Tags.{Has}
use Rattle.amqp_perf.proofs.read_states.deliveries_of.Given as goal

-- what is left to read, after the deliveries so far, is the whole; the set has the tags of the deliveries so far
abbrev pub invariant-loop : goal.invariant-loop
invariant-loop l =
    (deliveries_at l.deliveries.items (l.count - l.counter) (at_of l.fields) ≡ deliveries_at [] l.fn.count (at_of l.fn.fields))
    × Has l.tags l.deliveries.items
