use Rattle.std.proofs.Common.{◌∙◌, ap, sym, false}
use Rattle.std.specs.Prelude.{◌==◌}
use Rattle.state_collections.specs.NumberMap.{at_number}
use Rattle.router_trace.specs.Deliveries.{is_number}
use Rattle.state_deliveries.proofs.Called.{unless_is}
use Rattle.state_collections.proofs.Results.{on_ok}
use Rattle.state_deliveries.proofs.store.Store.remove_called.Goals as goal

pub returns-in-None-clause-deliveries : goal.returns-in-None-clause-deliveries
returns-in-None-clause-deliveries c = λ before n.
    unless_is c.args.name false (at_number c.args.self.now.deliveries n) (ap (λ v. is_number v n) (sym c.in-None.is ∙ c.get.ensures) ∙ before.called c.args.name n)

pub returns-in-Some-clause-deliveries : goal.returns-in-Some-clause-deliveries
returns-in-Some-clause-deliveries c = on_ok c.remove.result
    (λ removed before n. removed n
    ∙ unless_is c.args.name (c.in-Some.number == n) (at_number c.args.self.now.deliveries n) (ap (λ v. is_number v n) (sym c.in-Some.is ∙ c.get.ensures) ∙ before.called c.args.name n))
    c.remove.ensures.deliveries
