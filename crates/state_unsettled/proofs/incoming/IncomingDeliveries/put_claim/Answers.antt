use Rattle.std.proofs.Common.{◌∙◌, ap, sym, refl, Some}
use Rattle.router_trace.specs.Settling.{is_of_link}
use Rattle.state_unsettled.specs.Incoming.{stand_of, unbound_handle}
use Rattle.state_unsettled.specs.Standing.{is_marked, link_of, unbound_of}
use Rattle.state_collections.specs.Ids.{at_id}
use Rattle.state_unsettled.proofs.Counted.{counted_claim}
use Rattle.state_unsettled.proofs.Marked.{marked_moved, link_is, stand_unbound}
use Rattle.state_unsettled.proofs.incoming.IncomingDeliveries.put_claim.Goals as goal

pub returns-clause-marked : goal.returns-clause-marked
returns-clause-marked c = λ stood marked.
    let known = at_id c.args.self.now.ids in
    let was = known c.args.conn c.args.own c.args.id in
    let stands = c.stand.ensures in
    record {
      unbound =
          counted_claim c.args.self.now.by_link c.shift.new.self c.args.conn c.args.own c.args.id (Some c.args.claim) (unbound_of (Some c.stand.result))
          known (at_id c.insert.new.self) (ap unbound_of stands)
          (c.in_ok-shift.ensures.counted (λ d o q. unbound_handle (known d o q)) (sym (ap unbound_of stood ∙ stand_unbound was))) c.in_ok-insert.ensures marked.unbound;
      by_link =
          marked_moved (λ v. link_of (stand_of v)) is_of_link link_is c.args.conn c.args.own c.args.id (Some c.args.claim) was (link_of c.args.stood) (link_of (Some c.stand.result))
          known (at_id c.insert.new.self) (is_marked c.args.self.now.by_link) (is_marked c.shift.new.self)
          refl (ap link_of stood) (ap link_of stands) marked.by_link c.in_ok-shift.ensures.marked c.in_ok-insert.ensures;
    }
