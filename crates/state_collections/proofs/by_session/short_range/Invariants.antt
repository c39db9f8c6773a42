use Rattle.std.specs.Option.{is_some}
use Rattle.state_collections.specs.Ids.{IsAsked}
use Rattle.state_collections.specs.NumberMap.{at_number}
use Rattle.state_collections.proofs.by_session.short_range.Given as goal

-- the ids that were asked so far
abbrev pub invariant-loop-step : goal.invariant-loop-step
invariant-loop-step g l = IsAsked l.first (λ q. is_some (at_number l.ids q)) l.step l.found.items
