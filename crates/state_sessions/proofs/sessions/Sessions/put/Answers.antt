use Rattle.std.proofs.Common.{◌∷◌, subst, sym}
use Rattle.amqp_model.specs.declared.item.Item.{Item}
use Rattle.router_trace.specs.Trace.{Out}
use Rattle.state_sessions.specs.Fits.{SessionsFit}
use Rattle.state_sessions.proofs.sessions.Sessions.put.Goals as goal

pub returns-in_ok-put_perf-in-Frame : goal.returns-in_ok-put_perf-in-Frame
returns-in_ok-put_perf-in-Frame c = λ t fit.
    subst (λ (i : Item). SessionsFit c.put_perf.new.self (Out c.args.conn i ∷ t)) (sym c.in-Frame.is) (c.in_ok-put_perf-in-Frame.ensures t _ _ fit)
