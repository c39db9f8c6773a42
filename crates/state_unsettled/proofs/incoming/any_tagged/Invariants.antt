use Rattle.state_collections.specs.Ids.{at_id}
use Rattle.state_collections.specs.NumberSet.{has}
use Rattle.state_unsettled.specs.Incoming.{NoneBelow, tagged_at}
use Rattle.state_unsettled.proofs.Tagged.{left}
use Rattle.state_unsettled.proofs.incoming.any_tagged.Given as goal

-- none of the ids before the next has it
abbrev pub invariant-loop-next : goal.invariant-loop-next
invariant-loop-next l = NoneBelow (has l.ids) (tagged_at l.handle l.tag (at_id l.claims l.conn l.own)) l.next

abbrev pub decreases-loop-next : goal.decreases-loop-next
decreases-loop-next l = left l.next
