use Rattle.std.proofs.Common.{rules, ◌≡◌, ◌+◌, ◌∷◌, [], ◌++◌, take, IfSome}
use Rattle.std.specs.Io.KnownBytes.{Appends}
use Rattle.std.specs.Fmt.{with_newline}
use Rattle.std.proofs.lemmas.List.{take_more}
use Rattle.amqr_files.proofs.Streaming.{printed_nothing, printed_more}
use Rattle.amqr_files.proofs.print.print_lines.Goals as goal

pub loop-line-init : goal.loop-line-init
loop-line-init g c = printed_nothing g.L.Display.output (g.W.Write.contents c.args.output.now)

pub loop-line-preserved : goal.loop-line-preserved
loop-line-preserved g c =
    let more : take (c.loop-line.line-index + 1) c.args.lines.now ≡ take c.loop-line.line-index c.args.lines.now ++ c.line-item.result ∷ [] = search (rules, take_more) in
    let wrote : IfSome (with_newline (g.L.Display.output c.line-item.result)) (Appends (g.W.Write.contents c.loop-line.output) (g.W.Write.contents c.writeln.new.self)) = search rules in
    printed_more g.L.Display.output (take c.loop-line.line-index c.args.lines.now) (take (c.loop-line.line-index + 1) c.args.lines.now) c.line-item.result (g.W.Write.contents c.args.output.now) (g.W.Write.contents c.loop-line.output) (g.W.Write.contents c.writeln.new.self) c.loop-line.invariant wrote more
