use Rattle.std.proofs.Common.{◌∙◌, ap}
use Rattle.state_collections.specs.NumberMap.{at_number}
use Rattle.router_trace.specs.Deliveries.{origin_in, told_in, early_in, owned_in}
use Rattle.state_deliveries.proofs.Called.{called_fits}
use Rattle.state_deliveries.proofs.deliveries.Deliveries.producers_of.Goals as goal

pub returns-clause-origin : goal.returns-clause-origin
returns-clause-origin c = λ t fit.
    c.of.ensures.origin ∙ ap origin_in (c.called.ensures
    ∙ called_fits c.args.self.now.store.by_name (at_number c.args.self.now.store.deliveries) t c.args.name fit.store.deliveries fit.store.indexed.called)

pub returns-clause-told : goal.returns-clause-told
returns-clause-told c = λ t fit.
    c.of.ensures.told ∙ ap told_in (c.called.ensures
    ∙ called_fits c.args.self.now.store.by_name (at_number c.args.self.now.store.deliveries) t c.args.name fit.store.deliveries fit.store.indexed.called)

pub returns-clause-early : goal.returns-clause-early
returns-clause-early c = λ t fit.
    c.of.ensures.early ∙ ap early_in (c.called.ensures
    ∙ called_fits c.args.self.now.store.by_name (at_number c.args.self.now.store.deliveries) t c.args.name fit.store.deliveries fit.store.indexed.called)

pub returns-clause-owned : goal.returns-clause-owned
returns-clause-owned c = λ t fit.
    c.of.ensures.owned ∙ ap owned_in (c.called.ensures
    ∙ called_fits c.args.self.now.store.by_name (at_number c.args.self.now.store.deliveries) t c.args.name fit.store.deliveries fit.store.indexed.called)
