use Rattle.std.proofs.Common.{◌∙◌, ap, sym, false, Option}
use Rattle.std.specs.Prelude.{◌==◌, is_some}
use Rattle.std.specs.Option.{option_and_then}
use Rattle.router_trace.specs.Deliveries.{is_number, held_by}
use Rattle.state_collections.specs.NumberMap.{at_number}
use Rattle.state_deliveries.specs.declared.standing.Left.{Left}
use Rattle.state_deliveries.proofs.Given.{none_of}
use Rattle.state_deliveries.proofs.Joined.{held_name, joined_at}
use Rattle.state_deliveries.proofs.Settled.{Stepped, is_left, one_stepped, steps_at}
use Rattle.state_deliveries.proofs.store.Store.join.Goals as goal

stepped : (c : goal.After-is_some) → Stepped c.args.self.now c.settle.new.self
stepped c = one_stepped (held_by c.args.holding) c.in-Some.number c.in_ok-left.left c.args.self.now c.settle.new.self
    (at_number c.join_in.new.deliveries) c.join_in.new.index c.join_in.new.touched (held_name c.args.holding)
    c.in_ok-left.ensures.left c.in_ok-left.ensures.deliveries c.settle.ensures.deliveries c.settle.ensures.called c.settle.ensures.index c.settle.ensures.touched
    c.in_ok-left.ensures.indexed c.in_ok-left.ensures.touched

pub returns-clause-found : goal.returns-clause-found
returns-clause-found c =
    c.is_some.ensures ∙ ap (λ (x : Option Left). is_some x) c.in_ok-left.ensures.left ∙ is_left (held_by c.args.holding) (at_number c.args.self.now.deliveries c.in-Some.number)
    ∙ ap (λ v. is_some (option_and_then (at_number c.args.self.now.deliveries) v)) (sym c.in-Some.is ∙ c.get.ensures)

pub returns-clause-deliveries : goal.returns-clause-deliveries
returns-clause-deliveries c = λ before n.
    steps_at (held_by c.args.holding) c.in-Some.number c.in_ok-left.left c.args.self.now c.settle.new.self
    (at_number c.join_in.new.deliveries) c.in_ok-left.ensures.left c.in_ok-left.ensures.deliveries c.settle.ensures.deliveries n
    ∙ joined_at c.args.name c.args.holding (c.in-Some.number == n) (at_number c.args.self.now.deliveries n)
    (ap (λ v. is_number v n) (sym c.in-Some.is ∙ c.get.ensures) ∙ before.called c.args.name n)

pub returns-clause-indexed : goal.returns-clause-indexed
returns-clause-indexed c = (stepped c).indexed

pub returns-clause-touches : goal.returns-clause-touches
returns-clause-touches c = (stepped c).touches

-- no delivery has the name
pub returns-in_default-clause-found : goal.returns-in_default-clause-found
returns-in_default-clause-found c =
    ap (λ v. is_some (option_and_then (at_number c.args.self.now.deliveries) v)) (sym (none_of c.get.result c.in_default.not-Some) ∙ c.get.ensures)

pub returns-in_default-clause-deliveries : goal.returns-in_default-clause-deliveries
returns-in_default-clause-deliveries c = λ before n.
    joined_at c.args.name c.args.holding false (at_number c.args.self.now.deliveries n)
    (ap (λ v. is_number v n) (sym (none_of c.get.result c.in_default.not-Some) ∙ c.get.ensures) ∙ before.called c.args.name n)
