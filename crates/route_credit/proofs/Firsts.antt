-- What the first place of the index means.
use Rattle.std.proofs.Common.{◌≡◌, ◌∙◌, sym, ap, refl, ℕ, Bool, true, false, true≢false, ◌⊎◌, inl, inr, ◌<◌, ◌≤◌, ◌+◌, Option, Some, None, List, [], ◌∷◌, length, get_or, zero, suc, arith}
use Rattle.std.specs.Prelude.{◌==◌, nat_lt, if◌then◌else◌}
use Rattle.std.specs.BTreeSet.{BTreeSet, contains}
use Rattle.std.specs.Option.{option_map}
use Rattle.std.specs.Ordering.{nat_cmp, ordering_then, is_gt}
use Rattle.std.proofs.lemmas.Bool.{eqb-true, eq-eqb, ltb-true}
use Rattle.route_credit.specs.Few.{count, IsFirst, is_there, once}
use Rattle.route_credit.specs.Links.{IsLeast}
use Rattle.route_credit.specs.Ranks.{behind, is_rank, place_cmp, Ranks, times}
use Rattle.route_credit.specs.declared.place.Place.{Place}
use Rattle.route_credit.specs.declared.ranking.Ranking.{Ranking}
use Rattle.route_credit.proofs.Counted.{at_four}
use Rattle.route_credit.proofs.Moved.{by_test}

-- no rank
no_rank : (a : Option ℕ) → ((r : ℕ) → once (is_rank a r) ≡ 0) → a ≡ None
no_rank None none = refl
no_rank (Some r) none = absurd (one (sym (ap once (eq-eqb r r refl)) ∙ none r))
  where
    one : suc zero ≡ zero → ⊥
    one h = omega (arith, h)

some_rank : (a : Option ℕ) (r : ℕ) → 0 < once (is_rank a r) → a ≡ Some r
some_rank None r h = absurd (omega (arith, h))
some_rank (Some x) r h = by_test (x == r) (λ e. ap Some (eqb-true x r e)) (λ e. absurd (none (rw e at h)))
  where
    none : 0 < 0 → ⊥
    none h = omega (arith, h)

is_some_rank : (a : Option ℕ) (r : ℕ) → a ≡ Some r → 0 < once (is_rank a r)
is_some_rank None r h = absurd cc
is_some_rank (Some x) r h = rw (eq-eqb x r cc) (omega arith)

-- where each place is counted that a link has by its figure, the first one is that of the link with the least
pub least_of : (times : Place → ℕ) (figure : ℕ → Option ℕ) → ((place : Place) → times place ≡ once (is_rank (figure place.id) place.rank))
    → (first : Option Place) → IsFirst times first → IsLeast figure (option_map (λ place. place.id) first)
least_of times figure fits None none = λ id. no_rank (figure id) (λ r. sym (fits (record { rank = r; id = id })) ∙ none (record { rank = r; id = id }))
least_of times figure fits (Some first) least = (
  first.rank,
  some_rank (figure first.id) first.rank (let is = fits first in let there = least.0 in omega (arith, is, there)),
  λ other m is. least.1 (record { rank = m; id = other }) (let counted = fits (record { rank = m; id = other }) in let some = is_some_rank (figure other) m is in omega (arith, counted, some)),
)

-- two ways to count the same
pub same_first : (one other : Place → ℕ) → ((place : Place) → one place ≡ other place) → (first : Option Place) → IsFirst one first → IsFirst other first
same_first one other same None none = λ place. sym (same place) ∙ none place
same_first one other same (Some first) least = (
  (let is = same first in let there = least.0 in omega (arith, is, there)),
  λ place counted. least.1 place (let is = same place in omega (arith, is, counted)),
)

-- a place is the first of itself
pub itself : (found : Option Place) → IsFirst (λ place. once (is_there found place)) found
itself None = λ place. refl
itself (Some found) = (rw (eq-eqb found.id found.id refl, eq-eqb found.rank found.rank refl) (omega arith), λ place counted. here place counted)
  where
    here : (place : Place) → 0 < once (is_there (Some found) place) → (found.rank < place.rank) ⊎ ((found.rank ≡ place.rank) × (found.id ≤ place.id))
    here place counted = by_test (found.id == place.id)
        (λ e. by_test (found.rank == place.rank)
        (λ f. inr (eqb-true found.rank place.rank f, (let is = eqb-true found.id place.id e in omega (arith, is))))
        (λ f. absurd (none (rw (e, f) at counted))))
        (λ e. absurd (none (rw e at counted)))
      where
        none : 0 < 0 → ⊥
        none h = omega (arith, h)

-- the first of the places of the links after one
pub least_after : (ranks : ℕ → Option ℕ) (id : ℕ) (ranking : Ranking) → Ranks ranking ranks → (place : Place)
    → (if nat_lt id place.id then count ranking.few.places place else 0) + (if nat_lt id place.id then once (contains place_cmp ranking.more place) else 0) ≡ once (is_rank (behind id ranks place.id) place.rank)
least_after ranks id ranking fits place = by_test (nat_lt id place.id) (λ e. rw e (fits place)) (λ e. rw e refl)

-- a place of the ordered set has a link's rank
pub ranked_there : (ranking : Ranking) (ranks : ℕ → Option ℕ) → Ranks ranking ranks → (place : Place) → contains place_cmp ranking.more place ≡ true → ranks place.id ≡ Some place.rank
ranked_there ranking ranks fits place there = some_rank (ranks place.id) place.rank (let is = fits place in let one = ap once there in omega (arith, is, one))

four_after : (t : Bool) (a b c d : ℕ) → ((if t then a else 0) + (if t then b else 0)) + ((if t then c else 0) + (if t then d else 0)) ≡ (if t then (a + b) + (c + d) else 0)
four_after true a b c d = refl
four_after false a b c d = refl

-- what four places count of the links after one
pub at_four_after : (few : List (Option Place)) → length few ≡ 4 → (id : ℕ) (place : Place)
    → ((if nat_lt id place.id then once (is_there (get_or few 0 None) place) else 0) + (if nat_lt id place.id then once (is_there (get_or few 1 None) place) else 0))
    + ((if nat_lt id place.id then once (is_there (get_or few 2 None) place) else 0) + (if nat_lt id place.id then once (is_there (get_or few 3 None) place) else 0))
    ≡ (if nat_lt id place.id then count few place else 0)
at_four_after few four id place =
    four_after (nat_lt id place.id) (once (is_there (get_or few 0 None) place)) (once (is_there (get_or few 1 None) place)) (once (is_there (get_or few 2 None) place)) (once (is_there (get_or few 3 None) place))
    ∙ ap (λ n. if nat_lt id place.id then n else 0) (at_four few four place)

not_after : (a b c d : ℕ) → is_gt (ordering_then (nat_cmp a b) (nat_cmp c d)) ≡ false → (a < b) ⊎ ((a ≡ b) × (c ≤ d))
not_after a b c d h =
    by_test (nat_lt a b)
    (λ e. inl (ltb-true a b e))
    (λ e. by_test (a == b)
    (λ f. by_test (nat_lt c d)
    (λ g. inr (eqb-true a b f, (let l : c < d = ltb-true c d g in omega arith)))
    (λ g. by_test (c == d) (λ k. inr (eqb-true a b f, (let l : c ≡ d = eqb-true c d k in omega arith))) (λ k. absurd (true≢false (rw (e, f, g, k) at h)))))
    (λ f. absurd (true≢false (rw (e, f) at h))))

-- a length that isn't above 0
no_length : (n : ℕ) → (0 < n → false ≡ true) → n ≡ 0
no_length n short = by_test (n == 0) (λ e. eqb-true n 0 e) (λ e. absurd (true≢false (sym (short (above n e)))))
  where
    above : (n : ℕ) → (n == 0) ≡ false → 0 < n
    above zero e = absurd cc
    above (suc n) e = omega arith

module _ (places : BTreeSet Place) where
  is_in : (place : Place) → 0 < once (contains place_cmp places place) → contains place_cmp places place ≡ true
  is_in place counted = by_test (contains place_cmp places place) (λ e. e) (λ e. absurd (none (rw e at counted)))
    where
      none : 0 < 0 → ⊥
      none h = omega (arith, h)

  empty_has : (keys : List Place) → places.keys ≡ keys → length keys ≡ 0 → (place : Place) → contains place_cmp places place ≡ false
  empty_has [] is none place = rw is refl
  empty_has (k ∷ ks) is none place = absurd cc

  -- of no keys none is first
  pub first_none : (0 < length places.keys → false ≡ true) → IsFirst (λ place. once (contains place_cmp places place)) None
  first_none short place = ap once (empty_has places.keys refl (no_length (length places.keys) short) place)

  -- the first key is the first place
  pub first_some : (first : Place) → contains place_cmp places first ≡ true → ((q : Place) → contains place_cmp places q ≡ true → is_gt (place_cmp first q) ≡ false)
      → IsFirst (λ place. once (contains place_cmp places place)) (Some first)
  first_some first there least = (rw there (omega arith), λ q counted. not_after first.rank q.rank first.id q.id (least q (is_in q counted)))
