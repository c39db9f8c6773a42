use Rattle.std.proofs.Common.{sym, ◌∙◌}
use Rattle.state_connections.proofs.Turns.{found_unended}
use Rattle.state_connections.proofs.connections.phase_found.Goals as goal

pub returns : goal.returns
returns c = λ t are before. found_unended t c.args.event.now c.in-Item.conn c.in-Item.field-1 c.args.before c.args.ends.now c.in-Item.is (sym c.contains.ensures.value ∙ c.if-contains.false) are before
