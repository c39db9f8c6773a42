use Rattle.std.proofs.Common.{◌∙◌}
use Rattle.state_collections.specs.NumberMap.{at_number}
use Rattle.std.proofs.lemmas.List.Elements.{filter_agree}
use Rattle.router_trace.specs.Deliveries.{named}
use Rattle.router_trace.specs.Settling.{ids_between, is_open_id}
use Rattle.state_deliveries.specs.Naming.{opens}
use Rattle.state_collections.specs.Ids.{at_id}
use Rattle.state_deliveries.proofs.Opened.{opens_is}
use Rattle.state_deliveries.proofs.deliveries.Deliveries.open_ids.Goals as goal

pub returns : goal.returns
returns c = λ t fit.
    let conn = c.args.conn in
    let own = c.args.own in
    let ids = at_id c.args.self.now.names.ids conn own in
    let known = at_number c.args.self.now.store.deliveries in
    c.in_ok-open_ids.ensures fit.names.small
    ∙ filter_agree (λ id. opens known conn own id (ids id)) (is_open_id t conn own)
    (λ id. opens_is t conn own id (ids id) (named t conn own id) known fit.store.deliveries (fit.names.names conn own id)) (ids_between c.args.first c.args.last)
