use Rattle.state_deliveries.specs.Indexing.{at_consumer_moved, consumer_after, producer_after}
use Rattle.state_deliveries.proofs.Reindexed.{both_moved}
use Rattle.state_deliveries.proofs.index.Index.follow.Goals as goal

pub returns-clause-indexed : goal.returns-clause-indexed
returns-clause-indexed c = λ known begins fit.
    let m = c.args.number in
    let d = c.args.delivery.now in
    let at = consumer_after c.args.consumer d (known m).consumer in
    both_moved c.follow_by_producer.new.self m at (producer_after c.args.producer.now d (known m).producer) known
    (c.in_ok-follow_by_producer.ensures.indexed c.is_over-over.ensures (at_consumer_moved m at known) begins.1 (c.in_ok-follow_at_consumer.ensures.indexed known begins.0 fit))

pub returns-clause-touched : goal.returns-clause-touched
returns-clause-touched c = λ q k begins f.
    let second = c.in_ok-follow_by_producer.ensures.touched c.is_over-over.ensures q.producer k begins.1 f in
    let first = c.in_ok-follow_at_consumer.ensures.touched q.consumer k begins.0 second.0 in
    (first.0, record { consumer = first.1; held = second.1 })
