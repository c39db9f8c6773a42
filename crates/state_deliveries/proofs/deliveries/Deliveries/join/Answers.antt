use Rattle.std.proofs.Common.{◌∙◌, refl, sym, ap}
use Rattle.std.specs.Prelude.{is_none}
use Rattle.router_trace.specs.declared.binding.Binding.{Binding}
use Rattle.router_trace.specs.Deliveries.{holds_standing}
use Rattle.state_collections.proofs.Results.{on_ok}
use Rattle.state_deliveries.proofs.Bound.{joined_fits, newly_joined, unjoined_fits}
use Rattle.state_deliveries.proofs.Touching.{touches_then}
use Rattle.state_deliveries.proofs.deliveries.Deliveries.join.Goals as goal

-- a delivery has the row
pub returns-then-stands-clause-fits : goal.returns-then-stands-clause-fits
returns-then-stands-clause-fits c = λ t fit.
    joined_fits c.args.self.now _ t c.args.holding c.args.row _ refl refl refl refl refl refl (sym c.if-stands.true ∙ c.in_ok-stands.ensures.found)
    c.in_ok-stands.ensures.deliveries c.in_ok-stands.ensures.indexed fit

-- none has it
pub returns-clause-fits : goal.returns-clause-fits
returns-clause-fits c = on_ok c.bind.result
    (λ binds t fit.
    let none = sym c.if-stands.false ∙ c.in_ok-stands.ensures.found in
    newly_joined c.args.self.now c.bind.new.self t c.args.holding c.args.row _ c.in_ok-outcome.outcome c.joining.result c.joining.ensures c.in_ok-outcome.ensures none fit
    (binds t (ap (λ (b : Binding). is_none (holds_standing b.kind)) c.joining.ensures)
    (unjoined_fits c.args.self.now _ t c.args.holding c.args.row refl refl refl refl refl refl none c.in_ok-stands.ensures.deliveries c.in_ok-stands.ensures.indexed fit)))
    c.bind.ensures.fits

pub returns-clause-touches : goal.returns-clause-touches
returns-clause-touches c = on_ok c.bind.result
    (λ touched. touches_then c.args.self.now.store _ c.bind.new.self.store c.in_ok-stands.ensures.touches touched)
    c.bind.ensures.touches
