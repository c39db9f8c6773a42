use Rattle.std.proofs.Common.{◌∙◌, ap}
use Rattle.state_collections.specs.NumberMap.{at_number}
use Rattle.state_connections.specs.Emptied.{waiting_of}
use Rattle.state_connections.proofs.Emptying.{none_waits}
use Rattle.state_connections.proofs.connections.Connections.give_up.Goals as goal

pub returns-clause-none : goal.returns-clause-none
returns-clause-none c q = ap waiting_of (c.empty_all.ensures q) ∙ none_waits (at_number c.args.self.now.rows q)
