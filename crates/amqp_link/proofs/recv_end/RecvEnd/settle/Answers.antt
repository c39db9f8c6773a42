use Rattle.std.proofs.Common.{rules, ◌≡◌}
use Rattle.amqp_link.specs.Figures.{after_settlement}
use Rattle.amqp_link.specs.contracts.recv_end.RecvEnd.{the_view}
use Rattle.amqp_link.proofs.Receives.{settlement_noted}
use Rattle.amqp_link.proofs.recv_end.RecvEnd.settle.Goals as goal

pub returns-clause-fits : goal.returns-clause-fits
returns-clause-fits c = λ t.
    let same : the_view c.match-self.self-inside ≡ after_settlement c.args.self.now = search rules in
    settlement_noted c.args.self.now _ t same
