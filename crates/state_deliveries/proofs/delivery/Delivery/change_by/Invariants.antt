use Rattle.std.proofs.Common.{◌≡◌, drop}
use Rattle.state_deliveries.specs.Deciding.{changed_by}
use Rattle.state_deliveries.proofs.delivery.Delivery.change_by.Given as goal

-- what the remaining changes make of it
abbrev pub invariant-loop-change : goal.invariant-loop-change
invariant-loop-change l = changed_by (drop l.change-index l.changes) l.self ≡ changed_by l.changes l.fn.self
