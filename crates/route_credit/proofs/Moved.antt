-- How the index follows one link.
use Rattle.std.proofs.Common.{◌≡◌, ◌∙◌, sym, ap, refl, ℕ, Bool, true, false, ◌+◌, ◌-◌, ◌≤◌, Option, Some, None, arith}
use Rattle.std.specs.Prelude.{◌==◌}
use Rattle.std.proofs.lemmas.Bool.{eqb-true}
use Rattle.route_credit.specs.Few.{is_there, once, place_of}
use Rattle.route_credit.specs.Ranks.{is_rank, ranked, Ranks, times}
use Rattle.route_credit.specs.declared.place.Place.{Place}
use Rattle.route_credit.specs.declared.ranking.Ranking.{Ranking}

-- the two cases of a test
pub by_test : {P : Type 0} (b : Bool) → ((b ≡ true) → P) → ((b ≡ false) → P) → P
by_test true f g = f refl
by_test false f g = g refl

-- a rank is one
one_rank : (a b : Option ℕ) (r : ℕ) → is_rank a r ≡ true → is_rank b r ≡ true → a ≡ b
one_rank None b r h k = absurd cc
one_rank (Some x) None r h k = absurd cc
one_rank (Some x) (Some y) r h k = ap Some (eqb-true x r h ∙ sym (eqb-true y r k))

-- the place of a link is that with its number and its rank
there_at : (id : ℕ) (rank : Option ℕ) (place : Place) → (id == place.id) ≡ true → is_there (place_of id rank) place ≡ is_rank rank place.rank
there_at id None place e = refl
there_at id (Some r) place e = rw e refl

there_elsewhere : (id : ℕ) (rank : Option ℕ) (place : Place) → (id == place.id) ≡ false → is_there (place_of id rank) place ≡ false
there_elsewhere id None place e = refl
there_elsewhere id (Some r) place e = rw e refl

-- a place that a link is to have isn't there before
ranks_room : (ranking : Ranking) (ranks : ℕ → Option ℕ) (id : ℕ) (before after : Option ℕ) → Ranks ranking ranks → ranks id ≡ before → (before ≡ after → ⊥)
    → (place : Place) → times ranking place + once (is_there (place_of id after) place) ≤ 1
ranks_room ranking ranks id before after fits is other place =
    by_test (id == place.id)
    (λ e. let here : ranks place.id ≡ before = ap ranks (sym (eqb-true id place.id e)) ∙ is in
    rw (fits place, here, there_at id after place e) (apart (is_rank before place.rank) (is_rank after place.rank) (λ a b. other (one_rank before after place.rank a b))))
    (λ e. rw (fits place, there_elsewhere id after place e) (most (is_rank (ranks place.id) place.rank)))
  where
    apart : (a b : Bool) → (a ≡ true → b ≡ true → ⊥) → once a + once b ≤ 1
    apart true true other = absurd (other refl refl)
    apart true false other = omega arith
    apart false true other = omega arith
    apart false false other = omega arith

    most : (b : Bool) → once b + 0 ≤ 1
    most true = omega arith
    most false = omega arith

-- a link has moved to another rank
ranks_moved : (old new : Ranking) (ranks : ℕ → Option ℕ) (id : ℕ) (before after : Option ℕ) → Ranks old ranks → ranks id ≡ before
    → ((place : Place) → times new place + once (is_there (place_of id before) place) ≡ times old place + once (is_there (place_of id after) place))
    → Ranks new (ranked ranks id after)
ranks_moved old new ranks id before after fits is moved place =
    by_test (id == place.id)
    (λ e. let here : ranks place.id ≡ before = ap ranks (sym (eqb-true id place.id e)) ∙ is in
    let now = moved place in let was = fits place ∙ ap (λ r. once (is_rank r place.rank)) here in
    let from = ap once (there_at id before place e) in let to = ap once (there_at id after place e) in
    rw e (omega (arith, now, was, from, to)))
    (λ e. let now = moved place in let was = fits place in
    let from = ap once (there_elsewhere id before place e) in let to = ap once (there_elsewhere id after place e) in
    rw e (omega (arith, now, was, from, to)))

-- a link's new place was put, and its old one was taken away
pub ranks_put : (old put new : Ranking) (ranks : ℕ → Option ℕ) (id : ℕ) (before after : Option ℕ) → Ranks old ranks → ranks id ≡ before → (before ≡ after → ⊥)
    → ((place : Place) → times old place + once (is_there (place_of id after) place) ≤ 1 → times put place ≡ times old place + once (is_there (place_of id after) place))
    → ((place : Place) → times put place ≤ 1 → times new place ≡ times put place - once (is_there (place_of id before) place))
    → Ranks new (ranked ranks id after)
ranks_put old put new ranks id before after fits is other more less = ranks_moved old new ranks id before after fits is (λ place.
    let room = ranks_room old ranks id before after fits is other place in
    let one = more place room in
    let rest = less place (omega (arith, one, room)) in
    let there = was_there place in
    omega (arith, one, rest, there))
  where
    was_there : (place : Place) → once (is_there (place_of id before) place) ≤ times old place
    was_there place =
        by_test (id == place.id)
        (λ e. let here : ranks place.id ≡ before = ap ranks (sym (eqb-true id place.id e)) ∙ is in
        let was = fits place ∙ ap (λ r. once (is_rank r place.rank)) here in let from = ap once (there_at id before place e) in
        omega (arith, was, from))
        (λ e. let from = ap once (there_elsewhere id before place e) in omega (arith, from))
