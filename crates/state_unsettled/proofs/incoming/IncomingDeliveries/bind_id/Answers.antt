use Rattle.std.proofs.Common.{◌∙◌, sym, refl, None}
use Rattle.std.specs.Prelude.{◌==◌}
use Rattle.std.specs.Option.{option_map}
use Rattle.router_trace.specs.Claims.{bound_claim}
use Rattle.state_unsettled.specs.Incoming.{unbound_handle}
use Rattle.state_collections.specs.Ids.{at_id}
use Rattle.state_unsettled.proofs.Counted.{counted_claim, counted_moved}
use Rattle.state_unsettled.proofs.Marked.{bound_unmarked, link_stays, put_there}
use Rattle.state_unsettled.proofs.incoming.IncomingDeliveries.bind_id.Goals as goal

pub returns-clause-marked : goal.returns-clause-marked
returns-clause-marked c = λ marked.
    let known = at_id c.args.self.now.ids in
    let stood = known c.args.conn c.args.own c.args.id in
    record {
      unbound =
          counted_claim c.args.self.now.by_link c.bind.new.self c.args.conn c.args.own c.args.id (option_map bound_claim stood) None
          known (at_id c.bind_in-handle.new.ids) (bound_unmarked stood)
          (counted_moved c.args.self.now.by_link c.bind.new.self c.args.conn c.args.own c.args.id c.bind_in-handle.result None (λ d o q. unbound_handle (known d o q)) c.bind.ensures.counted (sym c.bind_in-handle.ensures.gives))
          (λ d o q. c.bind_in-handle.ensures.claims d o q ∙ sym (put_there known (option_map bound_claim) c.args.conn c.args.own c.args.id d o q (option_map bound_claim stood) refl))
          marked.unbound;
      by_link = λ d o h q. c.bind.ensures.marked d o h q ∙ marked.by_link d o h q
          ∙ link_stays (c.args.conn == d) (c.args.own == o) (c.args.id == q) h (known d o q) (at_id c.bind_in-handle.new.ids d o q) (c.bind_in-handle.ensures.claims d o q);
    }
