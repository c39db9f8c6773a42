use Rattle.std.proofs.Common.{◌≡◌, None, drop}
use Rattle.state_messages.specs.Asking.{lowest_of}
use Rattle.state_messages.proofs.owing.lowest_above.Given as goal

-- the lowest of the rest and of those seen is that of all
abbrev pub invariant-loop-at : goal.invariant-loop-at
invariant-loop-at l = lowest_of l.number l.lowest (drop l.at-index l.places) ≡ lowest_of l.fn.number None l.fn.places
