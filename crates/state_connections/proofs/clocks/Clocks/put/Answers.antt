use Rattle.std.proofs.Common.{◌∙◌, sym}
use Rattle.state_connections.proofs.clocks.Clocks.put.Goals as goal

pub returns : goal.returns
returns c = λ t fit. c.in_ok-write.ensures t c.args.item.now (sym c.is_close.ensures ∙ c.if-is_close.false) fit
