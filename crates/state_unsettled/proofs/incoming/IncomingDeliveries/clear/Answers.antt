use Rattle.std.proofs.Common.{◌∙◌, ap, sym, refl, None}
use Rattle.router_trace.specs.Settling.{is_of_link}
use Rattle.state_unsettled.specs.Incoming.{stand_of, unbound_handle}
use Rattle.state_unsettled.specs.Standing.{is_marked, link_of, unbound_of}
use Rattle.state_collections.specs.Ids.{at_id}
use Rattle.state_unsettled.proofs.Counted.{counted_claim, counted_moved}
use Rattle.state_unsettled.proofs.Marked.{marked_dropped, link_is, stand_unbound}
use Rattle.state_unsettled.proofs.incoming.IncomingDeliveries.clear.Goals as goal

pub returns-clause-marked : goal.returns-clause-marked
returns-clause-marked c = λ stood marked.
    let known = at_id c.args.self.now.ids in
    let was = known c.args.conn c.args.own c.args.id in
    record {
      unbound =
          counted_claim c.args.self.now.by_link c.leave.new.self c.args.conn c.args.own c.args.id None None known (at_id c.remove.new.self) refl
          (counted_moved c.args.self.now.by_link c.leave.new.self c.args.conn c.args.own c.args.id (unbound_of c.args.stood) None (λ d o q. unbound_handle (known d o q)) c.leave.ensures.counted (sym (ap unbound_of stood ∙ stand_unbound was)))
          c.remove.ensures marked.unbound;
      by_link =
          marked_dropped (λ v. link_of (stand_of v)) is_of_link link_is c.args.conn c.args.own c.args.id None was (link_of c.args.stood)
          known (at_id c.remove.new.self) (is_marked c.args.self.now.by_link) (is_marked c.leave.new.self)
          refl (ap link_of stood) refl marked.by_link c.leave.ensures.marked c.remove.ensures;
    }
