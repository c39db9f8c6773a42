use Rattle.router_serve.proofs.Submits.{none_gone}
use Rattle.router_serve.proofs.reader.make_way.Goals as goal

pub returns-clause-all : goal.returns-clause-all
returns-clause-all g c = none_gone c.args.seat.now c.args.passed.now.items
