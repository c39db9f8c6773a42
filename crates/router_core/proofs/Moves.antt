-- Moves one after another, and the traces that they lead to.
use Rattle.std.proofs.Common.{◌≡◌, refl, subst, ℕ, false, List, [], ◌∷◌, ◌++◌}
use Rattle.router_trace.specs.declared.event.Event.{Event}
use Rattle.router_trace.specs.Trace.{Entry, step_of}
use Rattle.router_trace.specs.Refusing.{refuses}
use Rattle.router_core.specs.Replies.{handled}
use Rattle.router_core.specs.Moves.{Goes}
use Rattle.core_machine.specs.Moves.{Move, Taking, handles, takes, took_one}

-- moves, then more of them
pub goes_on : (id : List ℕ) (ms ns : List Move) (t u v : List Entry) → Goes id ms t u → Goes id ns u v → Goes id (ms ++ ns) t v
goes_on id [] ns t u v first rest = subst (λ (w : List Entry). Goes id ns w v) first rest
goes_on id (handles s ∷ ms) ns t u v first rest = (first.0, goes_on id ms ns (handled id t s) u v first.1 rest)
goes_on id (takes x ∷ ms) ns t u v first rest = goes_on id ms ns (took_one x t) u v first rest

-- the traces that moves lead to
abbrev pub Leads : List ℕ → List Entry → List Entry → Type 0
Leads id t u = (moves : List Move) × Goes id moves t u

pub leads_on : (id : List ℕ) (t u v : List Entry) → Leads id t u → Leads id u v → Leads id t v
leads_on id t u v first rest = (first.0 ++ rest.0, goes_on id first.0 rest.0 t u v first.1 rest.1)

pub leads_same : (id : List ℕ) (t u : List Entry) → u ≡ t → Leads id t u
leads_same id t u e = ([], e)

pub leads_event : (id : List ℕ) (t : List Entry) (e : Event) → refuses t e ≡ false → Leads id t (handled id t (step_of e))
leads_event id t e taken = (handles (step_of e) ∷ [], (taken, refl))

pub leads_take : (id : List ℕ) (t : List Entry) (x : Taking) → Leads id t (took_one x t)
leads_take id t x = (takes x ∷ [], refl)
