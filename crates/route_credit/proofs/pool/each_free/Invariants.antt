use Rattle.std.proofs.Common.{◌≡◌, ◌++◌, length}
use Rattle.std.specs.Prelude.{map}
use Rattle.route_credit.specs.Pool.{copies_by}
use Rattle.route_credit.specs.Side.{links_of}
use Rattle.route_credit.specs.declared.ids.ConsumerId.{ConsumerId}
use Rattle.route_table.specs.declared.sections.Distribution.TheVariants.{Multicast}
use Rattle.route_credit.proofs.Copying.{rest}
use Rattle.route_credit.proofs.pool.each_free.Given as goal

-- those that are listed, and then those that are left, are all
abbrev pub invariant-loop-next : goal.invariant-loop-next
invariant-loop-next l = map (λ (c : ConsumerId). c.0) l.free.items ++ rest l.next (links_of l.consumers) ≡ copies_by Multicast (links_of l.consumers)

abbrev pub decreases-loop-next : goal.decreases-loop-next
decreases-loop-next l = length (rest l.next (links_of l.consumers))
