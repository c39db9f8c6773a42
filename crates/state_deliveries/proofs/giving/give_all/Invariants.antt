use Rattle.std.proofs.Common.{◌≡◌, ℕ, drop}
use Rattle.state_collections.specs.NumberMap.{at_number}
use Rattle.state_deliveries.specs.Fits.{Indexed}
use Rattle.state_deliveries.specs.Giving.{after_acts}
use Rattle.state_deliveries.specs.Stepping.{IsKept}
use Rattle.state_deliveries.specs.Touching.{StoreTouches}
use Rattle.state_deliveries.proofs.giving.give_all.Given as goal

-- what the remaining acts would still give
abbrev pub invariant-loop-act : goal.invariant-loop-act
invariant-loop-act l = (((n : ℕ) → IsKept (at_number l.fn.store.deliveries n)) → Indexed l.fn.store → (n : ℕ) → IsKept (at_number l.store.deliveries n)
    × (after_acts (drop l.act-index l.acts) (at_number l.store.deliveries n) ≡ after_acts l.acts (at_number l.fn.store.deliveries n)))
    × (Indexed l.fn.store → Indexed l.store)
    × StoreTouches l.fn.store l.store
