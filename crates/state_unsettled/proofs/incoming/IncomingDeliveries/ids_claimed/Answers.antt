use Rattle.std.proofs.Common.{rules, ◌∙◌, ◌<◌, ◌^◌, sym, subst, ap}
use Rattle.std.proofs.lemmas.List.{drop_more, drop_all}
use Rattle.amqp_session.specs.Ranges.{has, IsRising}
use Rattle.router_trace.proofs.Ranges.{one_copied}
use Rattle.state_unsettled.proofs.Ranged.{claimed_is}
use Rattle.state_unsettled.proofs.incoming.IncomingDeliveries.ids_claimed.Goals as goal

pub loop-id-preserved : goal.loop-id-preserved
loop-id-preserved c =
    let ids = c.deref-id-items.result.now in
    let few : c.number.result < 2 ^ 32 = search rules in
    rw c.in_ok-push.ensures.items (one_copied c.loop-id.found.items ids c.loop-id.id-index _ c.number.result
    (drop_more ids c.loop-id.id-index c.id-item.result c.loop-id-test.true) (c.number.ensures ∙ c.id-item.is) few c.loop-id.invariant)

pub returns : goal.returns
returns c = λ t fit.
    let ids = c.deref-id-items.result.now in
    let few : c.args.first < 2 ^ 32 = search rules in
    claimed_is c.args.self.now t c.args.conn c.args.own c.args.first c.args.last c.loop-id.found.items ids c.loop-id.id-index fit few c.loop-id.invariant
    (drop_all c.loop-id.id-index ids c.loop-id-test.false) (subst (IsRising c.args.first) (sym c.deref-id-items.ensures.value) c.in_ok-ids.ensures.rising)
    (λ id low. ap (has id) c.deref-id-items.ensures.value ∙ c.in_ok-ids.ensures.exact id low)
