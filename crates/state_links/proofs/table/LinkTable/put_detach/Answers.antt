use Rattle.std.proofs.Common.{refl, None}
use Rattle.std.specs.Prelude.{◌==◌}
use Rattle.amqp_model.specs.declared.perf.Perf.TheVariants as perf
use Rattle.amqp_model.specs.declared.item.Item.TheVariants as item
use Rattle.router_trace.specs.Links.{link}
use Rattle.state_links.specs.Naming.{on_handle}
use Rattle.state_collections.specs.Places.{at}
use Rattle.state_links.proofs.Attached.{names_put, detach_goes}
use Rattle.state_links.proofs.Rows.{attached_row, set_owes}
use Rattle.state_links.proofs.table.LinkTable.put_detach.Goals as goal

pub returns-clause-fits : goal.returns-clause-fits
returns-clause-fits c = λ t sasl payload fit.
    let x = c.args.detach.now in
    let conn = c.args.conn in
    let own = c.args.own in
    record {
      links = λ d o h. attached_row (conn == d) (own == o) (x.handle == h) None _ (at c.args.self.now.links d o h) None (link t d o h) (c.leave.ensures.links d o h) (fit.links d o h) (λ e. refl);
      count = fit.count;
      names = names_put conn (item.Frame sasl own (perf.Detach x) payload) t (on_handle conn own x.handle) _ _ refl (detach_goes conn own sasl x payload t) c.leave.ensures.names fit.names;
      owing = λ d o h e. set_owes (conn == d) (own == o) (x.handle == h) None _ (at c.args.self.now.links d o h) (c.leave.ensures.links d o h) refl (fit.owing d o h e);
    }
