use Rattle.std.proofs.Common.{ℕ, Option, sym, subst}
use Rattle.router_trace.specs.Deliveries.{delivery, rank_at}
use Rattle.state_deliveries.specs.Finding.{IsFirstBy}
use Rattle.router_after.specs.Starting.{goes_from}
use Rattle.router_after.proofs.Going.{nowhere, closed, nobody, somebody}
use Rattle.router_after.proofs.waiting.first_on.Goals as goal

pub returns-in_default : goal.returns-in_default
returns-in_default c = λ t f. nowhere t c.args.link (sym (c.in_default.ensures t f))

pub returns-then-not-is_wide : goal.returns-then-not-is_wide
returns-then-not-is_wide c = λ t f. closed t c.args.link c.in-Some.place (sym (c.in-Some.ensures t f)) (sym (c.if-not-is_wide.ensures t f))

pub returns-in-None : goal.returns-in-None
returns-in-None c = λ t f.
    nobody t c.args.link c.in-Some.place (sym (c.in-Some.ensures t f))
    (subst (λ (r : Option ℕ). IsFirstBy (rank_at t) (λ n. goes_from t c.in-Some.place n (delivery t n)) r) c.in-None.is (c.in_ok-first_at.ensures t f))

pub returns-in-Some-2 : goal.returns-in-Some-2
returns-in-Some-2 c = λ t f.
    somebody t c.args.link c.in-Some.place c.in-Some-2.number (sym (c.in-Some.ensures t f)) (sym (c.if-not-is_wide.ensures t f))
    (subst (λ (r : Option ℕ). IsFirstBy (rank_at t) (λ n. goes_from t c.in-Some.place n (delivery t n)) r) c.in-Some-2.is (c.in_ok-first_at.ensures t f))
    c.rank_of.result (c.rank_of.ensures t f)
