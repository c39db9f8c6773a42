use Rattle.std.proofs.Common.{◌∙◌, refl, ap, sym, false, Option}
use Rattle.std.specs.Prelude.{◌==◌}
use Rattle.std.specs.Option.{option_and_then}
use Rattle.router_trace.specs.declared.binding.DeliveryName.TheVariants.{Row}
use Rattle.router_trace.specs.Deliveries.{Delivery, is_number}
use Rattle.state_collections.specs.NumberMap.{at_number}
use Rattle.state_deliveries.specs.declared.spots.Spot.{Spot}
use Rattle.state_deliveries.specs.Giving.{with_outcome}
use Rattle.state_deliveries.specs.Indexing.{standing}
use Rattle.state_deliveries.proofs.Given.{decided_at, none_of}
use Rattle.state_deliveries.proofs.Settled.{Stepped, one_stepped, steps_at}
use Rattle.state_deliveries.proofs.store.Store.give.Goals as goal

stepped : (c : goal.After-settle) → Stepped c.args.self.now c.settle.new.self
stepped c = one_stepped (with_outcome c.args.decision.now.outcome) c.in-Some.number c.in_ok-left.left c.args.self.now c.settle.new.self
    (at_number c.give_to.new.deliveries) c.give_to.new.index c.give_to.new.touched (λ d. refl)
    c.in_ok-left.ensures.left c.in_ok-left.ensures.deliveries c.settle.ensures.deliveries c.settle.ensures.called c.settle.ensures.index c.settle.ensures.touched
    c.in_ok-left.ensures.indexed c.in_ok-left.ensures.touched

pub returns-clause-deliveries : goal.returns-clause-deliveries
returns-clause-deliveries c = λ keeps before n.
    steps_at (with_outcome c.args.decision.now.outcome) c.in-Some.number c.in_ok-left.left c.args.self.now c.settle.new.self
    (at_number c.give_to.new.deliveries) c.in_ok-left.ensures.left c.in_ok-left.ensures.deliveries c.settle.ensures.deliveries n
    ∙ decided_at c.args.decision.now (c.in-Some.number == n) (at_number c.args.self.now.deliveries n)
    (ap (λ v. is_number v n) (sym c.in-Some.is ∙ c.get.ensures) ∙ before.called (Row c.args.decision.now.row) n) (keeps n)

-- the place of its id
abbrev place_of : Option Delivery → Option Spot
place_of v = (standing v).consumer.durable

pub returns-clause-place : goal.returns-clause-place
returns-clause-place c =
    c.durable_place-place.ensures ∙ ap (λ v. place_of (option_and_then (at_number c.args.self.now.deliveries) v)) (sym c.in-Some.is ∙ c.get.ensures)

pub returns-in_default-clause-place : goal.returns-in_default-clause-place
returns-in_default-clause-place c = ap (λ v. place_of (option_and_then (at_number c.args.self.now.deliveries) v)) (sym (none_of c.get.result c.in_default.not-Some) ∙ c.get.ensures)

pub returns-clause-indexed : goal.returns-clause-indexed
returns-clause-indexed c = (stepped c).indexed

pub returns-clause-touches : goal.returns-clause-touches
returns-clause-touches c = (stepped c).touches

pub returns-in_default-clause-deliveries : goal.returns-in_default-clause-deliveries
returns-in_default-clause-deliveries c = λ keeps before n.
    decided_at c.args.decision.now false (at_number c.args.self.now.deliveries n)
    (ap (λ v. is_number v n) (sym (none_of c.get.result c.in_default.not-Some) ∙ c.get.ensures) ∙ before.called (Row c.args.decision.now.row) n) (keeps n)
