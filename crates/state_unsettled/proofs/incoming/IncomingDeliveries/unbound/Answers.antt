use Rattle.std.proofs.Common.{◌∙◌}
use Rattle.state_unsettled.proofs.Marked.{unbound_count}
use Rattle.state_unsettled.proofs.incoming.IncomingDeliveries.unbound.Goals as goal

pub returns : goal.returns
returns c = λ t fit. c.unbound.ensures ∙ unbound_count c.args.self.now t c.args.conn c.args.own c.args.handle fit
