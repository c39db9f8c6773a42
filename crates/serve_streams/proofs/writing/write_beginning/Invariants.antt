use Rattle.std.proofs.Common.{◌≤◌, length, take}
use Rattle.std.specs.Io.KnownBytes.{Appends}
use Rattle.serve_streams.proofs.writing.write_beginning.Given as goal

abbrev pub invariant-loop-turn : goal.invariant-loop-turn
invariant-loop-turn g l = (l.done ≤ length l.bytes) × Appends (g.W.Write.contents l.fn.output) (g.W.Write.contents l.output) (take l.done l.bytes)
