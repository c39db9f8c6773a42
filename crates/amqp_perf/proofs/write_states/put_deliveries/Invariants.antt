use Rattle.std.proofs.Common.{◌≡◌, ◌++◌, take}
use Rattle.amqp_model.specs.PerfSpelling.{deliveries_text}
use Rattle.amqp_perf.proofs.write_states.put_deliveries.Given as goal

abbrev pub invariant-loop-delivery : goal.invariant-loop-delivery
invariant-loop-delivery l = l.out.items ≡ l.fn.out.items ++ deliveries_text (take l.delivery-index l.deliveries)
