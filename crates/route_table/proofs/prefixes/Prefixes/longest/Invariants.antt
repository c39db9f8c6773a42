use Rattle.std.proofs.Common.{◌≡◌, ◌+◌, ◌≤◌, length}
use Rattle.route_table.specs.Prefixes.{best}
use Rattle.route_table.proofs.Longest.{scan}
use Rattle.route_table.proofs.prefixes.Prefixes.longest.Given as goal

abbrev pub invariant-loop-value : goal.invariant-loop-value
invariant-loop-value g l = record {
  within : l.end ≤ length l.address;
  below : scan l.self l.address (l.end + 1) ≡ best l.self l.address;
}

abbrev pub decreases-loop-value : goal.decreases-loop-value
decreases-loop-value g l = l.end
