use Rattle.std.proofs.Common.{sym}
use Rattle.router_after.proofs.Owing.{waits, nowhere, due}
use Rattle.router_after.proofs.draining.drained_at.Goals as goal

pub returns-then-has_unsent : goal.returns-then-has_unsent
returns-then-has_unsent c = λ t f owes. waits t c.args.link (sym (c.if-has_unsent.ensures t f))

pub returns-in-None : goal.returns-in-None
returns-in-None c = λ t f owes. nowhere t c.args.link (sym (c.in-None.ensures t f))

pub returns-in-Some : goal.returns-in-Some
returns-in-Some c = λ t f owes. due t c.args.link c.in-Some.place (sym (c.in-Some.ensures t f)) (sym (c.if-has_unsent.ensures t f)) owes
