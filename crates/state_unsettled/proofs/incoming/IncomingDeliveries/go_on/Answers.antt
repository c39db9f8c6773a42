use Rattle.std.proofs.Common.{◌∙◌, ap, sym, ℕ, List}
use Rattle.std.specs.Prelude.{◌==◌, Option}
use Rattle.router_trace.specs.Claims.{Claim, claim, claimed_later}
use Rattle.state_unsettled.specs.Incoming.{stand_of}
use Rattle.state_collections.specs.Ids.{at_id}
use Rattle.state_unsettled.proofs.Marked.{put_there, later_is, same_handle}
use Rattle.state_collections.proofs.Results.{on_ok}
use Rattle.state_unsettled.proofs.incoming.IncomingDeliveries.go_on.Goals as goal

pub returns-clause-claims : goal.returns-clause-claims
returns-clause-claims c = on_ok c.set.result
    (λ put d o q.
    let h = c.args.handle in
    let x = c.args.transfer.now in
    put d o q
    ∙ put_there (at_id c.args.self.now.ids) (claimed_later h x) c.args.conn c.args.own c.args.id d o q c.claimed.result
    (later_is h x c.in-Some.claim.now (at_id c.args.self.now.ids c.args.conn c.args.own c.args.id) c.claimed.result c.in-Some.ensures
    (sym (ap (λ (w : Claim). w.handle == h) c.claim.view_is) ∙ same_handle c.claim.inside.handle h c.if-claim-handle.false)
    (c.claimed.ensures ∙ ap (λ (g : Option (List ℕ)). claim h g x) c.in_ok-tag.ensures.text ∙ ap (λ (w : Claim). claim h w.tag x) c.claim.view_is)))
    c.set.ensures.claims

pub returns-clause-marked : goal.returns-clause-marked
returns-clause-marked c = on_ok c.set.result (λ marked. marked (c.stand_of-stood.ensures ∙ ap stand_of c.in-Some.ensures)) c.set.ensures.marked
