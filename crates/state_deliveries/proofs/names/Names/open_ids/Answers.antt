use Rattle.std.proofs.Common.{rules, ℕ, Bool, ◌<◌, ◌^◌, ◌∙◌, ◌++◌, ap, sym}
use Rattle.std.specs.List.{filter}
use Rattle.std.specs.Option.{is_some}
use Rattle.state_collections.specs.NumberMap.{at_number}
use Rattle.std.proofs.lemmas.List.{append-nil, drop_all}
use Rattle.state_deliveries.specs.Naming.{opens}
use Rattle.state_collections.specs.Ids.{at_id}
use Rattle.state_deliveries.proofs.Opened.{is_there, is_small}
use Rattle.router_trace.proofs.Ranges.{passing}
use Rattle.state_deliveries.proofs.names.Names.open_ids.Goals as goal

pub returns : goal.returns
returns c = λ small.
    let conn = c.args.conn in
    let own = c.args.own in
    let known = at_number c.args.store.now.deliveries in
    let names = at_id c.args.self.now.ids conn own in
    let pick : ℕ → Bool = λ id. opens known conn own id (names id) in
    let ids = c.deref-id-items.result.now in
    let few : c.args.first < 2 ^ 32 = search rules in
    sym (append-nil c.loop-id.found.items)
    ∙ ap (λ rest. c.loop-id.found.items ++ filter pick rest) (sym (drop_all c.loop-id.id-index ids c.loop-id-test.false))
    ∙ c.loop-id.invariant
    ∙ ap (filter pick) c.deref-id-items.ensures.value
    ∙ passing c.args.first c.args.last pick (λ id. is_some (names id)) _ few
    (λ id e. is_small known conn own id (names id) (small conn own id) e) (λ id e. is_there known conn own id (names id) e)
    c.in_ok-ids.ensures.rising c.in_ok-ids.ensures.exact
