use Rattle.std.proofs.Common.{◌∙◌, ◌++◌, sym, ap}
use Rattle.std.proofs.lemmas.List.{append-nil}
use Rattle.router_trace.specs.Trace.{puts_of}
use Rattle.router_trace.specs.Sessions.{session}
use Rattle.state_sessions.specs.Fits.{listed}
use Rattle.state_sessions.proofs.Quiet.{below_zero, below_next}
use Rattle.state_sessions.proofs.sessions.Sessions.gather.Goals as goal

pub loop-own-init : goal.loop-own-init
loop-own-init c = λ t fit. sym (ap (λ xs. (puts_of c.args.flows.now.items) ++ xs) (below_zero c.args.conn (session t c.args.conn)) ∙ append-nil (puts_of c.args.flows.now.items))

pub loop-own-preserved : goal.loop-own-preserved
loop-own-preserved c = λ t fit.
    c.in_ok-add.ensures ∙ ap (λ xs. xs ++ puts_of (listed c.due.result)) (c.loop-own.invariant t fit)
    ∙ sym (below_next c.args.conn (session t c.args.conn) c.loop-own.own (puts_of c.args.flows.now.items) (puts_of (listed c.due.result)) (c.due.ensures t fit))
