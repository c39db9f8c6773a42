use Rattle.std.proofs.Common.{false, None, Some}
use Rattle.state_unsettled.proofs.Tagged.{uses_is}
use Rattle.state_unsettled.proofs.incoming.IncomingDeliveries.uses_tag.Goals as goal

pub returns-in-None : goal.returns-in-None
returns-in-None c = λ t fit. uses_is c.args.self.now t c.args.conn c.args.own c.args.handle c.args.tag.now None false fit c.in-None.ensures (λ id there. absurd cc)

pub returns-in-Some : goal.returns-in-Some
returns-in-Some c = λ t fit. uses_is c.args.self.now t c.args.conn c.args.own c.args.handle c.args.tag.now (Some c.in-Some.row.now) c.any_tagged.result fit c.in-Some.ensures c.any_tagged.ensures
