use Rattle.std.proofs.Common.{◌∷◌, refl, sym, subst}
use Rattle.std.specs.Prelude.{◌==◌}
use Rattle.amqp_model.specs.declared.item.Item.{Item}
use Rattle.router_trace.specs.Trace.{Out}
use Rattle.router_trace.specs.Deliveries.{named, named_by, number_named}
use Rattle.state_collections.specs.Ids.{at_id}
use Rattle.state_deliveries.specs.Fits.{StoreFit}
use Rattle.state_deliveries.specs.Naming.{NamesFit}
use Rattle.state_deliveries.proofs.Low.{low_named}
use Rattle.state_deliveries.proofs.Named.{still, same_row, unframed, quiet_row}
use Rattle.state_deliveries.proofs.names.Names.put.Goals as goal

pub returns-in_default : goal.returns-in_default
returns-in_default c = λ t at fit.
    let i = c.args.item.now in
    let puts = Out c.args.conn i in
    record {
      names = λ d o id. same_row (puts ∷ t) _ (at_id c.args.self.now.ids d o id) (named t d o id) _ refl
          (quiet_row (c.args.conn == d) (named_by (number_named t) i o id (named t d o id)) (named t d o id) (unframed (number_named t) i o id (named t d o id) c.in_default.not-Frame))
          (still puts t (at_id c.args.self.now.ids d o id) (named t d o id) (low_named t d o id) (fit.names d o id));
      small = fit.small;
    }

pub returns-in_ok-put_perf-in-Frame : goal.returns-in_ok-put_perf-in-Frame
returns-in_ok-put_perf-in-Frame c = λ t at fit.
    subst (λ (i : Item). StoreFit c.args.store.now (Out c.args.conn i ∷ t) → NamesFit c.put_perf.new.self (Out c.args.conn i ∷ t)) (sym c.in-Frame.is)
    (λ there. c.in_ok-put_perf-in-Frame.ensures t _ _ there fit) at
