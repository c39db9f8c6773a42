use Rattle.std.proofs.Common.{rules, ◌≡◌, ◌∙◌, ◌<◌, ◌^◌, None}
use Rattle.std.specs.Prelude.{◌==◌}
use Rattle.state_collections.specs.Ids.{at_id}
use Rattle.state_unsettled.proofs.Claimed.{one_gone, small_gone}
use Rattle.state_unsettled.proofs.incoming.IncomingDeliveries.let_go_ids.Goals as goal

pub returns-then-first-last-clause-claims : goal.returns-then-first-last-clause-claims
returns-then-first-last-clause-claims c = λ small d o q.
    let few : c.args.first < 2 ^ 32 = search rules in
    let same : c.args.first ≡ c.args.last = search rules in
    c.let_go_one.ensures.claims d o q
    ∙ one_gone (c.args.conn == d) (c.args.own == o) c.args.first c.args.last q None (at_id c.args.self.now.ids d o q) few same (small d o q)

pub returns-then-first-last-clause-small : goal.returns-then-first-last-clause-small
returns-then-first-last-clause-small c = λ small d o q.
    small_gone (c.args.conn == d) (c.args.own == o) (c.args.first == q) None q (at_id c.args.self.now.ids d o q) _ (c.let_go_one.ensures.claims d o q) (small d o q)
