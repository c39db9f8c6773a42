use Rattle.std.proofs.Common.{◌∙◌, sym, ap}
use Rattle.std.specs.Prelude.{if◌then◌else◌}
use Rattle.state_collections.specs.Ids.{at_id}
use Rattle.state_collections.specs.NumberMap.{at_number}
use Rattle.router_trace.specs.Deliveries.{is_number}
use Rattle.state_deliveries.specs.Hearing.{id_of}
use Rattle.state_deliveries.specs.Stepping.{after_change}
use Rattle.state_deliveries.proofs.Forgotten.{stays, picked_there, one_forgotten}
use Rattle.state_deliveries.proofs.Given.{none_of}
use Rattle.state_deliveries.proofs.hearing.decide.Goals as goal

pub returns-clause-deliveries : goal.returns-clause-deliveries
returns-clause-deliveries c = λ n.
    let old = at_number c.args.store.now.deliveries n in
    c.in_ok-change.ensures.deliveries n
    ∙ ap (λ b. if b then after_change c.args.change.now old else old) (ap (λ v. is_number v n) (sym c.in-Some.is) ∙ c.picked.ensures n)

pub returns-clause-names : goal.returns-clause-names
returns-clause-names c = λ d o id.
    let place = c.args.place in
    let names = at_id c.args.names.now.ids in
    let number = c.in-Some.number in
    one_forgotten (at_number c.change.new.self.deliveries) names place number d o id _
    (picked_there (names place.conn place.own) number place.at (id_of (at_number c.args.store.now.deliveries number)) (ap (λ v. is_number v number) (sym c.in-Some.is) ∙ c.picked.ensures number))
    (c.forget_closed.ensures d o id)

pub returns-in_default-clause-deliveries : goal.returns-in_default-clause-deliveries
returns-in_default-clause-deliveries c = λ n.
    let old = at_number c.args.store.now.deliveries n in
    ap (λ b. if b then after_change c.args.change.now old else old) (ap (λ v. is_number v n) (sym (none_of c.picked.result c.in_default.not-Some)) ∙ c.picked.ensures n)

pub returns-in_default-clause-names : goal.returns-in_default-clause-names
returns-in_default-clause-names c = λ d o id. stays (at_number c.args.store.now.deliveries) (at_id c.args.names.now.ids d o id)
