use Rattle.std.proofs.Common.{◌≡◌, ◌++◌, drop}
use Rattle.std.specs.List.{filter}
use Rattle.state_collections.specs.NumberMap.{at_number}
use Rattle.state_deliveries.specs.Naming.{opens}
use Rattle.state_collections.specs.Ids.{at_id}
use Rattle.state_deliveries.proofs.names.Names.open_ids.Given as goal

-- the ids found so far, and those still to come
abbrev pub invariant-loop-id : goal.invariant-loop-id
invariant-loop-id l = (l.found.items ++ filter (λ id. opens (at_number l.store.deliveries) l.conn l.own id (at_id l.self.ids l.conn l.own id)) (drop l.id-index l.id-items))
    ≡ filter (λ id. opens (at_number l.store.deliveries) l.conn l.own id (at_id l.self.ids l.conn l.own id)) l.id-items
