use Rattle.std.proofs.Common.{◌∙◌, ◌+◌, sym, ap, drop}
use Rattle.std.proofs.lemmas.List.{drop_more}
use Rattle.state_collections.specs.NumberMap.{at_number}
use Rattle.amqp_session.specs.Ranges.{has}
use Rattle.state_deliveries.proofs.Again.{finish, one_more}
use Rattle.state_deliveries.proofs.Touching.{touches_then}
use Rattle.state_deliveries.proofs.store.Store.change_all.Goals as goal

pub loop-number-preserved : goal.loop-number-preserved
loop-number-preserved c = (
  λ n.
      let before = at_number c.loop-number.self.deliveries n in
      one_more c.args.change.now n _ (drop (c.loop-number.number-index + 1) c.args.numbers.now) before _ (c.in_ok-change.ensures.deliveries n)
      ∙ sym (ap (λ l. finish c.args.change.now (has n l) before) (drop_more c.args.numbers.now c.loop-number.number-index 0 c.loop-number-test.true))
      ∙ c.loop-number.invariant.0 n,
  λ old. c.in_ok-change.ensures.indexed (c.loop-number.invariant.1 old),
  touches_then c.args.self.now c.loop-number.self c.change.new.self c.loop-number.invariant.2 c.in_ok-change.ensures.touches,
)
