use Rattle.std.proofs.Common.{false, refl, ◌∙◌, ap, sym, subst}
use Rattle.state_deliveries.specs.Stepping.{after_change, IsKept}
use Rattle.state_deliveries.specs.declared.change.Change.TheVariants as change
use Rattle.state_deliveries.specs.declared.change.Gone.TheVariants as gone
use Rattle.state_deliveries.proofs.Puts.{on_ok_both, kept}
use Rattle.state_deliveries.proofs.store.Store.down.Goals as goal

pub returns-clause-fits : goal.returns-clause-fits
returns-clause-fits c = on_ok_both c.apply.result
    (λ applied indexed t fit. record { deliveries = λ n. applied refl (λ m. subst IsKept (sym (fit.deliveries m)) (kept t m)) fit.indexed n ∙ ap (after_change (change.Ends (gone.Connection c.args.conn.0) false)) (fit.deliveries n); indexed = indexed fit.indexed })
    c.apply.ensures.deliveries c.apply.ensures.indexed
