use Rattle.std.proofs.Common.{◌≤◌, length}
use Rattle.std.specs.Io.KnownBytes.{Consumes}
use Rattle.amqr_files.proofs.input.read_whole.Given as goal

abbrev pub invariant-loop-turn : goal.invariant-loop-turn
invariant-loop-turn g l = Consumes (g.I.Read.remaining l.fn.input) (g.I.Read.remaining l.input) l.bytes.items × (length l.bytes.items ≤ 67_108_864)
