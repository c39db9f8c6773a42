use Rattle.std.proofs.Common.{ℕ, Option, Some, sym, subst}
use Rattle.std.specs.Prelude.{◌&&◌}
use Rattle.std.proofs.lemmas.Bool.{and_parts}
use Rattle.router_trace.specs.Numbers.{no_rank}
use Rattle.state_deliveries.specs.Finding.{IsFirst, is_above}
use Rattle.state_messages.specs.Asking.{owes_drain}
use Rattle.router_after.specs.declared.candidate.Candidate.{Candidate}
use Rattle.router_after.specs.Draining.{drains_at}
use Rattle.router_after.specs.Soonest.{IsSoonestUpTo}
use Rattle.router_after.proofs.Owing.{owes}
use Rattle.router_after.proofs.Choosing.{one_more, no_more}
use Rattle.router_after.proofs.draining.soonest.Goals as goal

pub returns-in_default : goal.returns-in_default
returns-in_default c = λ t f.
    no_more no_rank (drains_at t) (owes_drain t) c.loop-turn.last c.loop-turn.best (owes t)
    (subst (λ (r : Option ℕ). IsFirst (λ k. is_above c.loop-turn.last k && owes_drain t k) r) c.in_default.is (c.in_ok-link.ensures t f)) (c.loop-turn.invariant t f)

pub loop-turn-preserved : goal.loop-turn-preserved
loop-turn-preserved c = λ t f.
    let first = subst (λ (r : Option ℕ). IsFirst (λ k. is_above c.loop-turn.last k && owes_drain t k) r) c.in-Some.is (c.in_ok-link.ensures t f) in
    let owed = (and_parts (is_above c.loop-turn.last c.in-Some.link) (owes_drain t c.in-Some.link) first.0).1 in
    subst (λ (r : Option Candidate). IsSoonestUpTo no_rank (drains_at t) (Some c.in-Some.link) r) (sym c.sooner-best.ensures)
    (one_more no_rank (drains_at t) (owes_drain t) c.loop-turn.last c.in-Some.link c.loop-turn.best c.drained_at.result (owes t) first (c.loop-turn.invariant t f)
    (c.drained_at.ensures t f owed))
