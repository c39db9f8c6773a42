use Rattle.std.proofs.Common.{arith}
use Rattle.state_collections.proofs.Among.{placed}
use Rattle.state_collections.proofs.few.Few.put.Goals as goal

pub returns-clause-put : goal.returns-clause-put
returns-clause-put c = λ _ n.
    placed c.args.self.now.count c.args.self.now.places c.args.number n (omega (arith, c.if-self-ge-FEW.false, c.args.self.now.four))
