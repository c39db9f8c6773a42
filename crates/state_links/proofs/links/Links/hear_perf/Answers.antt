use Rattle.std.proofs.Common.{◌∙◌, ap}
use Rattle.router_trace.specs.Links.{their_handle}
use Rattle.state_collections.specs.Places.{at}
use Rattle.state_links.specs.Giving.{part_named}
use Rattle.state_links.specs.declared.link.Side.TheVariants.{Peer}
use Rattle.state_links.proofs.Gives.{given_follows}
use Rattle.state_links.proofs.Rows.{named_same}
use Rattle.state_links.proofs.links.Links.hear_perf.Goals as goal

pub returns-clause-fits : goal.returns-clause-fits
returns-clause-fits c = λ t channel here answers fit. record {
  handles = c.in_ok-hear.ensures t channel c.args.payload.now here answers fit.handles;
  table = c.in_ok-part.ensures.fits t channel here
      (λ o h e. c.named-handle.ensures.names o h e
      ∙ named_same c.args.perf.now (at c.args.self.now.handles.theirs c.args.conn.0 o) (their_handle t c.args.conn.0 o) (fit.handles.theirs c.args.conn.0 o) h)
      fit.table;
}

pub returns-clause-part : goal.returns-clause-part
returns-clause-part c = λ t channel fit.
    c.in_ok-part.ensures.part
    ∙ ap (λ h. part_named Peer c.args.perf.now c.args.payload.now c.args.own h (at c.args.self.now.table.links c.args.conn.0)) c.named-handle.ensures.exact
    ∙ given_follows t c.args.conn.0 channel c.args.own c.args.perf.now c.args.payload.now (at c.args.self.now.handles.theirs c.args.conn.0) (at c.args.self.now.table.links c.args.conn.0)
    (fit.handles.theirs c.args.conn.0) (fit.table.links c.args.conn.0)
