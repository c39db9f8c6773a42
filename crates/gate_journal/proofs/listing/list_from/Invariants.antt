use Rattle.std.proofs.Common.{List, ℕ, length, ◌≤◌}
use Rattle.gate_journal.specs.Scanning.{BeginsWith}
use Rattle.gate_journal.specs.Walking.{ListedFrom}
use Rattle.gate_journal.proofs.listing.list_from.Given as goal

abbrev pub invariant-loop-inside : goal.invariant-loop-inside
invariant-loop-inside l =
    (length l.rest ≤ length l.bytes) × ((head : List ℕ) → BeginsWith head l.bytes l.from_gate → ListedFrom head l.fn.start l.bytes l.rest l.book l.entries.items)

abbrev pub decreases-loop-inside : goal.decreases-loop-inside
decreases-loop-inside l = length l.rest
