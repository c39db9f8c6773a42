use Rattle.std.proofs.Common.{rules, ◌≡◌, ◌∙◌}
use Rattle.std.specs.Prelude.{◌==◌}
use Rattle.state_collections.specs.Ids.{at_id}
use Rattle.state_unsettled.proofs.Claimed.{settled_there}
use Rattle.state_unsettled.proofs.incoming.IncomingDeliveries.settle.Goals as goal

pub returns-clause-claims : goal.returns-clause-claims
returns-clause-claims c = λ small d o q.
    let same : c.args.disposition.now.role ≡ c.args.role = search rules in
    c.in_ok-let_go_ids.ensures.claims small d o q
    ∙ settled_there (c.args.conn == d) (c.args.own == o) c.args.role c.args.disposition.now c.unwrap_or-last.result q (at_id c.args.self.now.ids d o q) same c.if-not-disposition.false c.unwrap_or-last.ensures
