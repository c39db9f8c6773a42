use Rattle.std.proofs.Common.{◌≡◌, ℕ, drop}
use Rattle.state_collections.specs.NumberMap.{at_number}
use Rattle.amqp_session.specs.Ranges.{has}
use Rattle.state_deliveries.specs.Fits.{Indexed}
use Rattle.state_deliveries.specs.Touching.{StoreTouches}
use Rattle.state_deliveries.proofs.Again.{finish}
use Rattle.state_deliveries.proofs.store.Store.change_all.Given as goal

-- what the remaining numbers would still change
abbrev pub invariant-loop-number : goal.invariant-loop-number
invariant-loop-number l = ((n : ℕ) → finish l.change (has n (drop l.number-index l.numbers)) (at_number l.self.deliveries n)
    ≡ finish l.change (has n l.numbers) (at_number l.fn.self.deliveries n))
    × (Indexed l.fn.self → Indexed l.self)
    × StoreTouches l.fn.self l.self
