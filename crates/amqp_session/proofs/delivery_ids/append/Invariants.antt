use Rattle.std.proofs.Common.{◌≡◌, ◌++◌}
use Rattle.std.specs.Map.{keys_of}
use Rattle.amqp_session.proofs.delivery_ids.append.Given as goal

abbrev pub invariant-loop-id : goal.invariant-loop-id
invariant-loop-id g l = l.ids.items ++ keys_of l.id-iterator ≡ l.fn.ids.items ++ keys_of l.fn.deliveries
