use Rattle.std.proofs.Common.{◌≡◌, ℕ, false, drop}
use Rattle.std.specs.List.{list_any}
use Rattle.state_collections.specs.Ids.{at_id}
use Rattle.state_collections.specs.NumberMap.{at_number}
use Rattle.state_deliveries.specs.Fits.{Indexed}
use Rattle.state_deliveries.specs.Hearing.{picks, id_of}
use Rattle.state_deliveries.specs.Indexing.{is_by_place}
use Rattle.state_deliveries.specs.Naming.{Forgets}
use Rattle.state_deliveries.specs.Stepping.{IsKept}
use Rattle.state_deliveries.specs.Touching.{StoreTouches}
use Rattle.state_deliveries.proofs.Again.{finish}
use Rattle.state_deliveries.proofs.hearing.decide_all.Given as goal

-- what the remaining ids would still decide
abbrev pub invariant-loop-id : goal.invariant-loop-id
invariant-loop-id l = (is_by_place l.change ≡ false → ((n : ℕ) → IsKept (at_number l.fn.store.deliveries n)) → (n : ℕ) → IsKept (at_number l.store.deliveries n)
    × (finish l.change (list_any (picks (at_id l.fn.names.ids l.conn l.own) n (id_of (at_number l.store.deliveries n))) (drop l.id-index l.ids)) (at_number l.store.deliveries n)
    ≡ finish l.change (list_any (picks (at_id l.fn.names.ids l.conn l.own) n (id_of (at_number l.fn.store.deliveries n))) l.ids) (at_number l.fn.store.deliveries n)))
    × ((c o id : ℕ) → Forgets (at_number l.store.deliveries) (at_id l.names.ids c o id) (at_id l.fn.names.ids c o id))
    × (Indexed l.fn.store → Indexed l.store)
    × StoreTouches l.fn.store l.store
