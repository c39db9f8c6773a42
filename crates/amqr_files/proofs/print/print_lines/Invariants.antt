use Rattle.std.proofs.Common.{take, IfSome}
use Rattle.std.specs.Io.KnownBytes.{Appends}
use Rattle.amqr_files.specs.Print.{printed}
use Rattle.amqr_files.proofs.print.print_lines.Given as goal

abbrev pub invariant-loop-line : goal.invariant-loop-line
invariant-loop-line g l = IfSome (printed g.L.Display.output (take l.line-index l.lines)) (Appends (g.W.Write.contents l.fn.output) (g.W.Write.contents l.output))
