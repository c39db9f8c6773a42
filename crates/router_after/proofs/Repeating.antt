-- Repetition as long as something is due: one turn after another, and none once nothing is due.
use Rattle.std.proofs.Common.{◌≡◌, ◌∙◌, ◌≤◌, ◌+◌, ◌^◌, ℕ, zero, suc, refl, sym, ap, subst, arith, List, []}
use Rattle.router_trace.specs.Trace.{Trace, Put, goes}
use Rattle.router_trace.specs.Following.{repeated, turns, as_long_as_due}

nothing_due : (next : Trace → List Put) (n : ℕ) (t : Trace) → next t ≡ [] → repeated next n t ≡ t
unfolding repeated
nothing_due next zero t none = refl
nothing_due next (suc n) t none = ap (λ ps. repeated next n (goes ps t)) none ∙ nothing_due next n t none

one_more : (next : Trace → List Put) (n : ℕ) (t : Trace) → repeated next (suc n) t ≡ goes (next (repeated next n t)) (repeated next n t)
unfolding repeated
one_more next zero t = refl
one_more next (suc n) t = one_more next n (goes (next t) t)

enough : (next : Trace → List Put) (k n : ℕ) (t : Trace) → k ≤ n → next (repeated next k t) ≡ [] → repeated next n t ≡ repeated next k t
unfolding repeated
enough next zero n t le none = nothing_due next n t none
enough next (suc k) zero t le none = absurd (omega (arith, le))
enough next (suc k) (suc n) t le none = enough next k n (goes (next t) t) (omega (arith, le)) none

behind : (k : ℕ) → suc k ≡ k + 1
behind k = omega arith

-- one turn after the others
pub goes_on : (Fits : Trace → Type 0) (next : Trace → List Put) (k : ℕ) (t : Trace)
    → Fits (goes (next (repeated next k t)) (repeated next k t)) → Fits (repeated next (k + 1) t)
goes_on Fits next k t fits =
    subst (λ (n : ℕ). Fits (repeated next n t)) (behind k) (subst Fits (sym (one_more next k t)) fits)

-- nothing is due after these turns
pub stops : (Fits : Trace → Type 0) (next : Trace → List Put) (k : ℕ) (t : Trace) → k ≤ 18446744073709551615 → next (repeated next k t) ≡ []
    → Fits (goes (next (repeated next k t)) (repeated next k t)) → Fits (as_long_as_due next t)
unfolding turns
stops Fits next k t le none fits =
    subst Fits (ap (λ ps. goes ps (repeated next k t)) none ∙ sym (enough next k (2 ^ 64) t (omega (arith, le)) none)) fits

pub at_first : (Fits : Trace → Type 0) (next : Trace → List Put) (t : Trace) → Fits t → Fits (repeated next 0 t)
unfolding repeated
at_first Fits next t fits = fits
