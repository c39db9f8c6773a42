use Rattle.std.proofs.Common.{◌∙◌, false, ap}
use Rattle.std.specs.Prelude.{◌==◌}
use Rattle.std.specs.Ordering.{nat_cmp}
use Rattle.std.specs.BTreeSet.{contains}
use Rattle.std.proofs.lemmas.Bool.{eqb-true}
use Rattle.amqp_model.specs.declared.item.Item.TheVariants as item
use Rattle.router_trace.specs.Links.{link, their_handle, is_handle}
use Rattle.router_trace.specs.Sessions.{theirs, maps, is_channel}
use Rattle.router_trace.specs.declared.event.Event.TheVariants as event
use Rattle.state_links.specs.declared.link.Side.TheVariants.{Peer}
use Rattle.state_links.specs.Ends.{noted}
use Rattle.state_links.specs.Fits.{names_in, with_mark}
use Rattle.state_collections.specs.Places.{at}
use Rattle.state_links.proofs.Attached.{names_heard}
use Rattle.state_links.proofs.Thinning.{none_gone}
use Rattle.state_links.proofs.Rows.{heard, noted_follows, heard_where_named, heard_row, heard_owes}
use Rattle.state_links.proofs.table.LinkTable.hear.Goals as goal

pub returns-clause-fits : goal.returns-clause-fits
returns-clause-fits c = λ t channel here named fit.
    let p = c.args.perf.now in
    let b = c.args.payload.now in
    record {
      links = λ d o h. heard_row (c.args.conn.0 == d) (is_channel c.args.own o) (maps (theirs t d channel) o) (is_handle c.args.handle h) (names_in p (their_handle t d o) h)
          (noted Peer p b) (heard p b) _ (at c.args.self.now.links d o h) (link t d o h) _
          (c.in_ok-part.ensures.links d o h) (fit.links d o h) (heard_where_named p b h (their_handle t d o) (link t d o h)) (noted_follows p b)
          (λ e. here o ∙ ap (λ k. maps (theirs t k channel) o) (eqb-true c.args.conn.0 d e))
          (λ e i. named o h i ∙ ap (λ k. names_in p (their_handle t k o) h) (eqb-true c.args.conn.0 d e));
      count = fit.count;
      names = names_heard (event.Item c.args.conn (item.Frame false channel p b)) t (λ a. false) _ _ (λ a e. absurd cc) (none_gone (λ a. false) c.args.self.now.names) fit.names;
      owing = λ d o h e. heard_owes p b (c.args.conn.0 == d) (is_channel c.args.own o) (is_handle c.args.handle h) (contains nat_cmp c.args.self.now.owing d) _ _ (at c.args.self.now.links d o h)
          (c.in_ok-part.ensures.links d o h) (c.in_ok-mark.ensures d ∙ ap (λ k. with_mark c.args.conn.0 k (contains nat_cmp c.args.self.now.owing) d) c.asks_drain.ensures) (fit.owing d o h) e;
    }
