use Rattle.router_reply.proofs.closing.close_with.Goals as goal

pub returns : goal.returns
returns c = λ t fit. rw c.if-phase.false (c.in_ok-write_close-2.ensures _ (c.in_ok-write_open.ensures t fit))
