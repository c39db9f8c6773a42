use Rattle.std.proofs.Common.{List, ℕ, length, ◌≤◌}
use Rattle.gate_journal.specs.Scanning.{WalkedFrom, BeginsWith}
use Rattle.gate_journal.proofs.scan.walk.Given as goal

abbrev pub invariant-loop-inside : goal.invariant-loop-inside
invariant-loop-inside l =
    (length l.rest ≤ length l.bytes) × ((head : List ℕ) → BeginsWith head l.bytes l.from_gate → WalkedFrom head l.fn.start l.bytes l.rest l.book l.count)

abbrev pub decreases-loop-inside : goal.decreases-loop-inside
decreases-loop-inside l = length l.rest
