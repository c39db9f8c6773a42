use Rattle.std.proofs.Common.{◌≡◌}
use Rattle.serve_streams.proofs.Doors.{Asked}
use Rattle.serve_streams.proofs.greeting.pass.Given as goal

abbrev pub invariant-loop-item : goal.invariant-loop-item
invariant-loop-item l = (l.at ≡ l.item-index) × Asked l.fn.door l.items l.fn.said.items l.door l.said.items l.item-index
