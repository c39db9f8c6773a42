-- What acts make of a book, and then more acts.
use Rattle.std.proofs.Common.{◌≡◌, sym, refl, subst, ℕ, List, [], ◌∷◌, ◌++◌, length, None, true, arith}
use Rattle.std.specs.Prelude.{◌==◌}
use Rattle.std.proofs.lemmas.Bool.Decides.{nat_tests}
use Rattle.std.proofs.lemmas.List.{nil_from_length}
use Rattle.book_model.specs.declared.act.Act.{Act}
use Rattle.book_model.specs.Book.{BookView, refusal, effect, effects, first_fault}
use Rattle.journal_store.proofs.Conditions.{first_applies, rest_applies}

pub effects_more : (b : BookView) (acts more : List Act) → effects b (acts ++ more) ≡ effects (effects b acts) more
unfolding effects
effects_more b [] more = refl
effects_more b (act ∷ acts) more = effects_more (effect b act) acts more

pub applies_more : (b : BookView) (acts more : List Act) → first_fault b acts ≡ None → first_fault (effects b acts) more ≡ None → first_fault b (acts ++ more) ≡ None
unfolding first_fault effects
applies_more b [] more first rest = rest
applies_more b (act ∷ acts) more first rest =
    let here : refusal b act ≡ None = first_applies _ _ first in
    rw here (applies_more (effect b act) acts more (rest_applies (refusal b act) _ first) rest)

pub no_acts : (n : ℕ) (acts : List Act) → n ≡ length acts → (n == 0) ≡ true → acts ≡ []
no_acts n acts is h = nil_from_length acts (grind (arith, nat_tests))

-- no acts do nothing
pub nothing_done : (b : BookView) (acts : List Act) → acts ≡ [] → b ≡ effects b acts
unfolding effects
nothing_done b acts none = subst (λ (xs : List Act). b ≡ effects b xs) (sym none) refl
