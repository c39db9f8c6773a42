use Rattle.std.proofs.Common.{◌≡◌, ◌++◌, List, length}
use Rattle.amqp_frames.specs.Cuts.{Leads}
use Rattle.amqp_model.specs.declared.item.Item.{Item as AnItem}
use Rattle.amqp_frames.proofs.cut.cut.Given as goal

abbrev pub invariant-loop-item : goal.invariant-loop-item
invariant-loop-item l = (more : List AnItem) × (l.items.items ≡ l.fn.items.items ++ more) × Leads l.fn.bytes more l.rest

abbrev pub decreases-loop-item : goal.decreases-loop-item
decreases-loop-item l = length l.rest
