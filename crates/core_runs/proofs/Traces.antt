-- Runs consist of moves: their traces are traces of the router.
use Rattle.std.proofs.Common.{sym, refl, subst, ℕ, List, [], ◌∷◌, ◌+◌, inl, inr}
use Rattle.router_trace.specs.Configuration.{beginning}
use Rattle.router_trace.specs.declared.event.Event.{Event}
use Rattle.router_trace.specs.Trace.{Beginning, Entry, step_of}
use Rattle.core_machine.specs.Moves.{Taking, handles, took_one}
use Rattle.router_core.specs.Moves.{IsTrace}
use Rattle.core_runs.specs.declared.driving.Sent.{Sent}
use Rattle.core_runs.specs.Runs.{took_all, MayStep, MaySteps, Run}
use Rattle.router_core.proofs.Books.{not_refused}
use Rattle.router_core.proofs.Moves.{Leads, leads_on, leads_same, leads_take}

leads_takes : (id : List ℕ) (xs : List Taking) (t : List Entry) → Leads id t (took_all xs t)
leads_takes id [] t = leads_same id t t refl
leads_takes id (x ∷ xs) t = leads_on id t (took_one x t) (took_all xs (took_one x t)) (leads_take id t x) (leads_takes id xs (took_one x t))

step_leads : (id : List ℕ) (t : List Entry) (e : Event) (u : List Entry) → MayStep id t e u → Leads id t u
step_leads id t e u (inl is_refused) = leads_same id t u is_refused.1
step_leads id t e u (inr taken) = (handles (step_of e) ∷ [], (not_refused t e taken.0, taken.1.answers))

steps_lead : (id : List ℕ) (t : List Entry) (es : List Event) (u : List Entry) → MaySteps id t es u → Leads id t u
steps_lead id t [] u went = leads_same id t u went
steps_lead id t (e ∷ es) u went = leads_on id t went.0 u (step_leads id t e went.0 went.1) (steps_lead id went.0 es u went.2)

run_leads : (id : List ℕ) (place : ℕ) (t : List Entry) (groups : List (List Event)) (xs : List Sent) (u : List Entry) → Run id place t groups xs u → Leads id t u
run_leads id place t [] xs u run = leads_same id t u run.0
run_leads id place t (es ∷ groups) xs u run =
    let behind : List Entry = run.3.behind
    in let emptied : Leads id behind run.0 = subst (λ (w : List Entry). Leads id behind w) (sym run.3.emptied.trace) (leads_takes id run.3.emptied.takes behind)
    in leads_on id t run.0 u (leads_on id t behind run.0 (steps_lead id t es behind run.3.events) emptied)
    (run_leads id (place + 1) run.0 groups run.2 u run.4)

pub run_is_trace : (id : List ℕ) (g : Beginning) (groups : List (List Event)) (xs : List Sent) (u : List Entry) → Run id 0 (beginning g) groups xs u → IsTrace id g u
run_is_trace id g groups xs u run = run_leads id 0 (beginning g) groups xs u run
