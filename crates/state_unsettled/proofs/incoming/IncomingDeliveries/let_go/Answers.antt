use Rattle.std.proofs.Common.{◌∙◌, ◌+◌, sym, ap, drop}
use Rattle.std.specs.Prelude.{◌==◌}
use Rattle.std.proofs.lemmas.List.{drop_more, drop_all}
use Rattle.amqp_session.specs.Ranges.{has}
use Rattle.state_unsettled.specs.Incoming.{let_go_at}
use Rattle.state_collections.specs.Ids.{at_id}
use Rattle.state_unsettled.proofs.Claimed.{one_more, all_gone, small_gone, nothing_left}
use Rattle.state_unsettled.proofs.incoming.IncomingDeliveries.let_go.Goals as goal

pub loop-id-preserved : goal.loop-id-preserved
loop-id-preserved c =
    let ids = c.deref-id-items.result.now in (
      λ d o q.
          let before = at_id c.loop-id.self.ids d o q in
          let here = c.args.conn == d in
          let own = c.args.own == o in
          one_more here own q _ (drop (c.loop-id.id-index + 1) ids) c.args.link before _ (c.let_go_one.ensures.claims d o q ∙ ap (λ k. let_go_at here own (k == q) c.args.link before) (c.number.ensures ∙ c.id-item.is))
          ∙ sym (ap (λ l. let_go_at here own (has q l) c.args.link before) (drop_more ids c.loop-id.id-index c.id-item.result c.loop-id-test.true))
          ∙ c.loop-id.invariant.0 d o q,
      λ small d o q. small_gone (c.args.conn == d) (c.args.own == o) (c.number.result == q) c.args.link q (at_id c.loop-id.self.ids d o q) _ (c.let_go_one.ensures.claims d o q) (c.loop-id.invariant.1 small d o q),
      λ marked. c.let_go_one.ensures.marked (c.loop-id.invariant.2 marked),
    )

pub returns-clause-claims : goal.returns-clause-claims
returns-clause-claims c = λ small d o q.
    let ids = c.deref-id-items.result.now in
    let now = at_id c.loop-id.self.ids d o q in
    let here = c.args.conn == d in
    let own = c.args.own == o in
    nothing_left here own q (drop c.loop-id.id-index ids) c.args.link now (drop_all c.loop-id.id-index ids c.loop-id-test.false)
    ∙ c.loop-id.invariant.0 d o q
    ∙ all_gone c.args.conn c.args.own d o q c.args.first c.args.last ids c.args.link (at_id c.args.self.now.ids) (small c.args.conn c.args.own q)
    (λ id low. ap (has id) c.deref-id-items.ensures.value ∙ c.in_ok-ids.ensures.exact id low)
