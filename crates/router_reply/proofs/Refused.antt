-- What is put for an attach that is refused, if the answer fits in a frame of the peer's.
use Rattle.std.proofs.Common.{◌≡◌, ℕ, Bool, true, false, ap, subst, [], ◌∷◌, Some, None}
use Rattle.std.specs.Prelude.{if◌then◌else◌, unwrap_or}
use Rattle.amqp_model.specs.declared.item.Item.{Item}
use Rattle.router_trace.specs.Trace.{Trace, puts}
use Rattle.router_state.specs.declared.tables.State.{State}
use Rattle.router_state.specs.Tables.{TablesFit}

-- an answer that fits comes before the detach
pub answer_put : (s : State) (t : Trace) (c : ℕ) (b : Bool) (answer item detach : Item) → Some item ≡ (if b then Some answer else None)
    → TablesFit s (puts c (detach ∷ []) (puts c (item ∷ []) t)) → TablesFit s (puts c (if b then answer ∷ detach ∷ [] else detach ∷ []) t)
answer_put s t c true answer item detach same fit = subst (λ (i : Item). TablesFit s (puts c (detach ∷ []) (puts c (i ∷ []) t))) (ap (λ o. unwrap_or o answer) same) fit
answer_put s t c false answer item detach same fit = absurd cc
