use Rattle.std.proofs.Common.{◌∙◌}
use Rattle.state_collections.specs.NumberMap.{at_number}
use Rattle.router_trace.specs.Deliveries.{named}
use Rattle.state_collections.specs.Ids.{at_id}
use Rattle.state_deliveries.proofs.Opened.{used_is}
use Rattle.state_deliveries.proofs.deliveries.Deliveries.is_used.Goals as goal

pub returns : goal.returns
returns c = λ t fit. c.is_used.ensures
    ∙ used_is t (at_id c.args.self.now.names.ids c.args.conn c.args.own c.args.id) (named t c.args.conn c.args.own c.args.id) (at_number c.args.self.now.store.deliveries) fit.store.deliveries
    (fit.names.names c.args.conn c.args.own c.args.id)
