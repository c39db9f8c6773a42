use Rattle.std.proofs.Common.{◌∙◌, ap, ◌+◌, drop}
use Rattle.std.proofs.lemmas.List.{drop_more}
use Rattle.amqp_session.specs.Ranges.{has}
use Rattle.state_collections.specs.NumberMap.{in_places}
use Rattle.state_collections.proofs.Remainders.{taken_out}
use Rattle.state_collections.proofs.number_map.NumberMap.widen.Goals as goal

pub loop-number-preserved : goal.loop-number-preserved
loop-number-preserved g c =
    let numbers = c.deref-number-items.result.now in
    let index = c.loop-number.number-index in
    record {
      same = λ q. c.in_ok-move_from.ensures.moved q ∙ c.loop-number.invariant.same q;
      left = taken_out (in_places c.loop-number.few) (in_places c.move_from.new.few) _ (drop (index + 1) numbers) c.in_ok-move_from.ensures.gone
          (λ q is. c.loop-number.invariant.left q (ap (has q) (drop_more numbers index _ c.loop-number-test.true) ∙ is));
    }
