use Rattle.std.proofs.Common.{◌++◌, ap}
use Rattle.state_messages.specs.Asking.{standing}
use Rattle.state_messages.proofs.Copied.{ids, places_all, places_more}
use Rattle.state_messages.proofs.copies.places.Goals as goal

pub loop-consumer-init : goal.loop-consumer-init
loop-consumer-init c = λ t fit. ap (λ xs. xs ++ standing t (ids c.args.consumers.now)) c.new-places.ensures.items

pub loop-consumer-preserved : goal.loop-consumer-preserved
loop-consumer-preserved c = λ t fit.
    places_more t c.args.consumers.now c.loop-consumer.consumer-index _ _ _ _ c.loop-consumer-test.true (c.in_ok-add_place.ensures t fit) (c.loop-consumer.invariant t fit)

pub returns : goal.returns
returns c = λ t fit. places_all t c.args.consumers.now c.loop-consumer.consumer-index _ _ c.loop-consumer-test.false (c.loop-consumer.invariant t fit)
