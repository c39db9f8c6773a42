-- How often a place is among a few.
use Rattle.std.proofs.Common.{◌≡◌, ◌∙◌, sym, ap, refl, ℕ, zero, suc, ◌<◌, ◌+◌, true, false, List, [], ◌∷◌, length, Option, Some, None, get_or, set, arith}
use Rattle.std.specs.Prelude.{◌==◌}
use Rattle.std.proofs.lemmas.Bool.{eqb-true}
use Rattle.route_credit.specs.Few.{count, is_there, once}
use Rattle.route_credit.specs.declared.place.Place.{Place}
use Rattle.route_credit.proofs.Moved.{by_test}

-- a place, or none, is put where another one was, or none
pub replaced : (few : List (Option Place)) (at : ℕ) (before after : Option Place) → at < length few → get_or few at None ≡ before → (place : Place)
    → count (set few at after) place + once (is_there before place) ≡ count few place + once (is_there after place)
unfolding count
replaced [] at before after below is place = absurd (omega (arith, below))
replaced (x ∷ few) zero before after below is place = rw (sym is) (omega arith)
replaced (x ∷ few) (suc at) before after below is place = let rest = replaced few at before after (omega (arith, below)) is place in omega (arith, rest)

-- a place is the one that is found there
same_place : (found : Option Place) (place : Place) → is_there found place ≡ true → found ≡ Some place
same_place None place h = absurd cc
same_place (Some found) place h = by_test (found.id == place.id)
    (λ e. by_test (found.rank == place.rank)
    (λ f. ap Some (λ i. record { rank = eqb-true found.rank place.rank f i; id = eqb-true found.id place.id e i }))
    (λ f. absurd (no (rw (e, f) at h))))
    (λ e. absurd (no (rw e at h)))
  where
    no : false ≡ true → ⊥
    no h = cc

-- a place that stands nowhere isn't counted
pub nowhere : (few : List (Option Place)) (before : Option Place) (place : Place) → ((q : ℕ) → q < length few → get_or few q None ≡ before → ⊥)
    → is_there before place ≡ true → count few place ≡ 0
unfolding count
nowhere [] before place other is = refl
nowhere (x ∷ few) before place other is =
    let rest = nowhere few before place (λ q below. other (suc q) (omega (arith, below))) is in
    by_test (is_there x place)
    (λ e. absurd (other 0 (omega arith) (same_place x place e ∙ sym (same_place before place is))))
    (λ e. let here = ap once e in omega (arith, here, rest))

-- what four places count
pub at_four : (few : List (Option Place)) → length few ≡ 4 → (place : Place)
    → (once (is_there (get_or few 0 None) place) + once (is_there (get_or few 1 None) place)) + (once (is_there (get_or few 2 None) place) + once (is_there (get_or few 3 None) place)) ≡ count few place
unfolding count
at_four [] four place = absurd (omega (arith, four))
at_four (a ∷ []) four place = absurd (omega (arith, four))
at_four (a ∷ b ∷ []) four place = absurd (omega (arith, four))
at_four (a ∷ b ∷ c ∷ []) four place = absurd (omega (arith, four))
at_four (a ∷ b ∷ c ∷ d ∷ []) four place = omega arith
at_four (a ∷ b ∷ c ∷ d ∷ e ∷ few) four place = absurd (omega (arith, four))
