use Rattle.std.proofs.Common.{◌≡◌, is_some, drop}
use Rattle.route_credit.specs.Links.{link_at}
use Rattle.route_credit.specs.Pool.{by_id}
use Rattle.state_messages.proofs.turns.is_among.Given as goal

-- none of the sums before is this link's
abbrev pub invariant-loop-sum : goal.invariant-loop-sum
invariant-loop-sum l = is_some (link_at (by_id (drop l.sum-index l.sums)) l.number) ≡ is_some (link_at (by_id l.fn.sums) l.fn.number)
