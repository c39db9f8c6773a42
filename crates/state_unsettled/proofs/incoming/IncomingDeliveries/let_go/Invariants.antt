use Rattle.std.proofs.Common.{◌≡◌, ℕ, drop}
use Rattle.std.specs.Prelude.{◌==◌}
use Rattle.amqp_session.specs.Ranges.{has}
use Rattle.state_unsettled.specs.Incoming.{AreSmall, AreMarked, let_go_at}
use Rattle.state_collections.specs.Ids.{at_id}
use Rattle.state_unsettled.proofs.incoming.IncomingDeliveries.let_go.Given as goal

-- the claims that the remaining ids would still free
abbrev pub invariant-loop-id : goal.invariant-loop-id
invariant-loop-id l = ((c o q : ℕ) → let_go_at (l.conn == c) (l.own == o) (has q (drop l.id-index l.id-items)) l.link (at_id l.self.ids c o q)
    ≡ let_go_at (l.conn == c) (l.own == o) (has q l.id-items) l.link (at_id l.fn.self.ids c o q))
    × (AreSmall (at_id l.fn.self.ids) → AreSmall (at_id l.self.ids))
    × (AreMarked l.fn.self → AreMarked l.self)
