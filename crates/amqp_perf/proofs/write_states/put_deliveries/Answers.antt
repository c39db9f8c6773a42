use Rattle.amqp_perf.proofs.Lists.{deliveries_more}
use Rattle.amqp_perf.proofs.write_states.put_deliveries.Goals as goal

pub loop-delivery-preserved : goal.loop-delivery-preserved
loop-delivery-preserved c = deliveries_more c.args.deliveries.now c.loop-delivery.delivery-index c.delivery-item.result c.args.out.now.items c.loop-delivery.out.items c.put_delivery.new.out.items c.loop-delivery-test.true c.delivery-item.is c.loop-delivery.invariant c.in_ok-put_delivery.ensures
