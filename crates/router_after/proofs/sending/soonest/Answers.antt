use Rattle.std.proofs.Common.{Option, Some, sym, subst}
use Rattle.router_trace.specs.Deliveries.{rank_at}
use Rattle.state_messages.specs.Asking.{has_unsent}
use Rattle.router_after.specs.declared.candidate.Candidate.{Candidate}
use Rattle.router_after.specs.Soonest.{IsSoonestUpTo}
use Rattle.router_after.specs.Starting.{places}
use Rattle.router_after.proofs.Going.{has_it}
use Rattle.router_after.proofs.Choosing.{one_more, no_more}
use Rattle.router_after.proofs.sending.soonest.Goals as goal

pub returns-in_default : goal.returns-in_default
returns-in_default c = λ t f. no_more (rank_at t) (places t) (has_unsent t) c.loop-turn.last c.loop-turn.best (has_it t) (c.in_default.ensures t f) (c.loop-turn.invariant t f)

pub loop-turn-preserved : goal.loop-turn-preserved
loop-turn-preserved c = λ t f.
    subst (λ (r : Option Candidate). IsSoonestUpTo (rank_at t) (places t) (Some c.in-Some.link) r) (sym c.sooner-best.ensures)
    (one_more (rank_at t) (places t) (has_unsent t) c.loop-turn.last c.in-Some.link c.loop-turn.best c.in_ok-found.found (has_it t) (c.in-Some.ensures t f) (c.loop-turn.invariant t f)
    (c.in_ok-found.ensures t f))
