use Rattle.std.proofs.Common.{◌≡◌, ◌∙◌, ℕ, Bool, true, false, refl, ap}
use Rattle.std.specs.Prelude.{◌==◌, if◌then◌else◌, Option, Some, None}
use Rattle.state_collections.specs.NumberMap.{at_number}
use Rattle.router_trace.specs.declared.binding.DeliveryName.{DeliveryName}
use Rattle.router_trace.specs.Deliveries.{Delivery, bound, unless_called}
use Rattle.state_deliveries.specs.Calling.{is_called}
use Rattle.state_deliveries.proofs.Called.{none_called}
use Rattle.state_deliveries.proofs.Placed.{same_number}
use Rattle.state_deliveries.proofs.Touching.{touches_then}
use Rattle.state_deliveries.proofs.store.Store.bind.Goals as goal

-- what is there of the earlier ones
rest : (c : goal.In_ok-add) → (n : ℕ) → at_number c.remove.new.self.deliveries n ≡ (if c.args.number == n then None else at_number c.remove_called.new.self.deliveries n)
rest c = c.in_ok-remove.ensures.deliveries

-- nothing has the number
free : (c : goal.In_ok-add) → at_number c.remove.new.self.deliveries c.args.number ≡ None
free c = rest c c.args.number ∙ ap (λ b. if b then None else at_number c.remove_called.new.self.deliveries c.args.number) (same_number c.args.number)

once : (b : Bool) (d : Delivery) (v : Option Delivery) → (if b then Some d else (if b then None else v)) ≡ (if b then Some d else v)
once true d v = refl
once false d v = refl

none_left : (name : DeliveryName) (b : Bool) (v : Option Delivery) → is_called name (if b then None else unless_called name v) ≡ false
none_left name true v = refl
none_left name false v = none_called name v

pub returns-clause-deliveries : goal.returns-clause-deliveries
returns-clause-deliveries c = λ before n.
    let new = bound c.args.name c.args.rank c.args.binding in
    c.in_ok-add.ensures.deliveries n
    ∙ ap (λ (v : Option Delivery). if c.args.number == n then Some new else v)
    (rest c n ∙ ap (λ (v : Option Delivery). if c.args.number == n then None else v) (c.in_ok-remove_called.ensures.deliveries before n))
    ∙ once (c.args.number == n) new (unless_called c.args.name (at_number c.args.self.now.deliveries n))

pub returns-clause-touches : goal.returns-clause-touches
returns-clause-touches c =
    touches_then c.args.self.now c.remove_called.new.self c.add.new.self c.in_ok-remove_called.ensures.touches
    (touches_then c.remove_called.new.self c.remove.new.self c.add.new.self c.in_ok-remove.ensures.touches (c.in_ok-add.ensures.touches (free c)))

pub returns-clause-indexed : goal.returns-clause-indexed
returns-clause-indexed c = λ none before.
    c.in_ok-add.ensures.indexed (free c)
    (λ n. ap (is_called c.args.name) (rest c n ∙ ap (λ (v : Option Delivery). if c.args.number == n then None else v) (c.in_ok-remove_called.ensures.deliveries before n))
    ∙ none_left c.args.name (c.args.number == n) (at_number c.args.self.now.deliveries n))
    (c.in_ok-remove.ensures.indexed (c.in_ok-remove_called.ensures.indexed before))
