use Rattle.std.proofs.Common.{◌∙◌, ap, ℕ, List}
use Rattle.std.specs.Prelude.{Option}
use Rattle.router_trace.specs.Claims.{Claim, unless_claimed, claim}
use Rattle.router_trace.specs.Deliveries.{tag_in}
use Rattle.state_unsettled.specs.Incoming.{stand_of}
use Rattle.state_collections.specs.Ids.{at_id}
use Rattle.state_unsettled.proofs.Marked.{put_there}
use Rattle.state_collections.proofs.Results.{on_ok}
use Rattle.state_unsettled.proofs.incoming.IncomingDeliveries.begin.Goals as goal

pub returns-in_ok-tag-in-None-clause-claims : goal.returns-in_ok-tag-in-None-clause-claims
returns-in_ok-tag-in-None-clause-claims c = on_ok c.set.result
    (λ put d o q.
    let h = c.args.handle in
    let x = c.args.transfer.now in
    let new : Option Claim = claim h (tag_in x) x in
    put d o q
    ∙ put_there (at_id c.args.self.now.ids) (λ (v : Option Claim). unless_claimed v new) c.args.conn c.args.own c.args.id d o q c.claimed.result
    (c.claimed.ensures ∙ ap (λ (g : Option (List ℕ)). claim h g x) c.in_ok-tag-in-None.ensures.text ∙ ap (λ (v : Option Claim). unless_claimed v new) c.in-None.ensures))
    c.set.ensures.claims

pub returns-in_ok-tag-in-None-clause-marked : goal.returns-in_ok-tag-in-None-clause-marked
returns-in_ok-tag-in-None-clause-marked c = on_ok c.set.result (λ marked. marked (c.stand_of-stood.ensures ∙ ap stand_of c.in-None.ensures)) c.set.ensures.marked
