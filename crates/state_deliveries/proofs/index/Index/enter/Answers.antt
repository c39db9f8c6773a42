use Rattle.state_deliveries.specs.Indexing.{at_consumer, at_producer, no_consumer, no_producer, seat_of}
use Rattle.state_deliveries.proofs.Reindexed.{both_entered}
use Rattle.state_deliveries.proofs.Touching.{stands_as}
use Rattle.state_deliveries.proofs.index.Index.enter.Goals as goal

pub returns-clause-indexed : goal.returns-clause-indexed
returns-clause-indexed c = λ known is fit.
    let d = c.args.delivery.now in
    both_entered c.args.self.now c.shift_consumer.new.self c.shift_producer.new.self c.args.number known
    (seat_of d) (no_consumer) (at_consumer d) (no_producer) (at_producer d) _ _ _ _ _ c.of.ensures c.nowhere.ensures c.of-2.ensures c.nowhere-2.ensures c.of-3.ensures
    c.in_ok-shift_consumer.ensures.indexed c.in_ok-shift_producer.ensures.indexed is fit

pub returns-clause-touched : goal.returns-clause-touched
returns-clause-touched c = λ k f.
    let d = c.args.delivery.now in
    let second = c.in_ok-shift_producer.ensures.touched k f in
    let first = c.in_ok-shift_consumer.ensures.touched k second.0 in
    (first.0, stands_as k (seat_of d) (no_consumer) (at_consumer d) (no_producer) (at_producer d) _ _ _ _ _ c.of.ensures c.nowhere.ensures c.of-2.ensures c.nowhere-2.ensures c.of-3.ensures first.1 second.1)
