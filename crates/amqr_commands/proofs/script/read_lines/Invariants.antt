use Rattle.std.proofs.Common.{length}
use Rattle.amqr_commands.specs.Cut.{behind}
use Rattle.amqr_commands.specs.Script.{lines_of}
use Rattle.amqr_commands.proofs.Reading.{ReadSoFar}
use Rattle.amqr_commands.proofs.script.read_lines.Given as goal

abbrev pub invariant-loop-rest : goal.invariant-loop-rest
invariant-loop-rest l = ReadSoFar (lines_of l.text) (behind 10 l.rest) l.line l.steps.items

abbrev pub decreases-loop-rest : goal.decreases-loop-rest
decreases-loop-rest l = length (behind 10 l.rest)
