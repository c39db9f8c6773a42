use Rattle.std.proofs.Common.{sym, ap, ◌∙◌, not}
use Rattle.state_collections.specs.NumberMap.{at_number}
use Rattle.std.specs.Prelude.{filter}
use Rattle.router_trace.specs.Connection.{unless_due, has}
use Rattle.state_connections.proofs.Turns.{calm, turned_at, turned_due}
use Rattle.state_connections.proofs.connections.Connections.turn.Goals as goal

pub returns-then-self-clause-at : goal.returns-then-self-clause-at
returns-then-self-clause-at c = λ t fit. (calm _ t _ fit c.if-self.true).0

pub returns-then-self-clause-due : goal.returns-then-self-clause-due
returns-then-self-clause-due c = λ t fit. c.new.ensures.items ∙ sym (calm _ t c.args.event.now fit c.if-self.true).1

pub returns-clause-at : goal.returns-clause-at
returns-clause-at c = λ t fit. turned_at c.args.self.now _ t c.args.event.now c.in_ok-ends.ends.items fit (record {
  gathered = c.in_ok-ends.ensures;
  rows = λ k. c.end_all.ensures.rows k ∙ ap (λ ks. unless_due ks (at_number c.args.self.now.rows) k) c.deref.ensures.value;
  live = c.end_all.ensures.live ∙ ap (λ ks. filter (λ k. not (has k ks)) c.args.self.now.live.items) c.deref.ensures.value;
  last = c.end_all.ensures.last;
  roomy = ap not c.is_loss.ensures;
})

pub returns-clause-due : goal.returns-clause-due
returns-clause-due c = λ t fit. turned_due c.args.self.now t c.args.event.now c.in_ok-ends.ends.items fit c.in_ok-ends.ensures
