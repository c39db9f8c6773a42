use Rattle.serve_streams.proofs.Greets.{IsFar}
use Rattle.serve_streams.proofs.greeting.greet_in.Given as goal

abbrev pub invariant-loop-turn : goal.invariant-loop-turn
invariant-loop-turn g l = IsFar l.fn.door l.fn.frames (g.I.Read.remaining l.fn.input) (g.W.Write.contents l.fn.output) l.door l.frames (g.I.Read.remaining l.input) (g.W.Write.contents l.output)
