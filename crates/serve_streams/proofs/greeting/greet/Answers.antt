use Rattle.serve_streams.proofs.Greets.{refused}
use Rattle.serve_streams.proofs.greeting.greet.Goals as goal

pub returns-in_default : goal.returns-in_default
returns-in_default g c = refused c.args.door.now c.args.frames.now (g.I.Read.remaining c.args.input.now) (g.W.Write.contents c.args.output.now)
