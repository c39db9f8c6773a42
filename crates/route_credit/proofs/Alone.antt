-- One link that stands alone.
use Rattle.std.proofs.Common.{◌≡◌, ◌∙◌, sym, ap, refl, subst, ℕ, true, ◌⊎◌, inr, ◌<◌, ◌≤◌, length, Option, Some, None, List, [], ◌∷◌, arith}
use Rattle.std.specs.Prelude.{◌==◌, nat_lt, option_and_then, option_map}
use Rattle.std.specs.BTreeMap.{is_at}
use Rattle.std.specs.List.Sorted.{IsStrictlySortedBy}
use Rattle.std.specs.Ordering.{nat_cmp}
use Rattle.std.proofs.lemmas.Bool.{eqb-true, lt-ltb}
use Rattle.route_credit.specs.Indexed.{IsIndexed}
use Rattle.route_credit.specs.Links.{IsLeast}
use Rattle.route_credit.specs.Ranks.{behind, rank_at}
use Rattle.route_credit.specs.Side.{has_no_other, IsWhole, links_of}
use Rattle.route_credit.specs.declared.links.Links.{Links}
use Rattle.route_credit.specs.declared.side.Side.{Side}
use Rattle.route_credit.specs.declared.side.Side.TheVariants.{Empty, One, Several}
use Rattle.route_credit.proofs.Entries.{here, InOrder}
use Rattle.route_credit.proofs.Indices.{same_test}
use Rattle.route_credit.proofs.Moved.{by_test}

none_some : {P : Type 0} (m : ℕ) → None ≡ Some m → P
none_some m h = absurd cc

module _ {X : Type 0} (rank : X → Option ℕ) where
  -- it has the first turn, if it has one
  alone_first : (id : ℕ) (link : X) (x : Option ℕ) → rank link ≡ x → IsLeast (rank_at rank ((id, link) ∷ [])) (option_map {U = ℕ} (λ n. id) x)
  alone_first id link None is = λ q. by_test (is_at (nat_cmp q) id) (λ e. rw e is) (λ e. rw e refl)
  alone_first id link (Some n) is = (n, ap (option_and_then rank) (here (id, link) []) ∙ is, λ other m h. by_test (is_at (nat_cmp other) id) (λ e. it other m e (rw e at h)) (λ e. none_some m (rw e at h)))
    where
      it : (other m : ℕ) → is_at (nat_cmp other) id ≡ true → rank link ≡ Some m → (n < m) ⊎ ((n ≡ m) × (id ≤ other))
      it other m e h =
          let same : other ≡ id = eqb-true other id (sym (same_test other id) ∙ e) in
          let alike : Some n ≡ Some m = sym is ∙ h in
          inr (cc, omega (arith, same))

  -- what is first of all is first of those after a number that it is above
  least_after : (f : ℕ → Option ℕ) (after id : ℕ) (x : Option ℕ) → after < id → IsLeast f (option_map {U = ℕ} (λ n. id) x) → IsLeast (behind after f) (option_map {U = ℕ} (λ n. id) x)
  least_after f after id None above none = λ q. by_test (nat_lt after q) (λ e. rw e (none q)) (λ e. rw e refl)
  least_after f after id (Some n) above least =
      (least.0, rw (lt-ltb after id above) least.1, λ other m h. by_test (nat_lt after other) (λ e. least.2 other m (rw e at h)) (λ e. none_some m (rw e at h)))

  pub one_first : (side : Side X) (id : ℕ) (link : X) (r : Option ℕ) → side ≡ One id link → r ≡ option_map {U = ℕ} (λ n. id) (rank link) → IsLeast (rank_at rank (links_of side)) r
  one_first side id link r is turn = subst (λ s. IsLeast (rank_at rank (links_of s)) r) (sym is) (subst (λ r. IsLeast (rank_at rank ((id, link) ∷ [])) r) (sym turn) (alone_first id link (rank link) refl))

  pub one_first_after : (side : Side X) (after id : ℕ) (link : X) (r : Option ℕ) → side ≡ One id link → r ≡ option_map {U = ℕ} (λ n. id) (rank link) → after < id → IsLeast (behind after (rank_at rank (links_of side))) r
  one_first_after side after id link r is turn above =
      subst (λ s. IsLeast (behind after (rank_at rank (links_of s))) r) (sym is)
      (subst (λ r. IsLeast (behind after (rank_at rank ((id, link) ∷ []))) r) (sym turn)
      (least_after (rank_at rank ((id, link) ∷ [])) after id (rank link) above (alone_first id link (rank link) refl)))

  -- where there are several, their index tells
  pub several_first : (amount : X → ℕ) (side : Side X) (links : Links X) (r : Option ℕ) → side ≡ Several links
      → (IsIndexed rank amount links → IsLeast (rank_at rank links.rows.entries) r) → IsWhole rank amount side → IsLeast (rank_at rank (links_of side)) r
  several_first amount side links r is first = subst (λ s. IsWhole rank amount s → IsLeast (rank_at rank (links_of s)) r) (sym is) first

  pub several_first_after : (amount : X → ℕ) (side : Side X) (links : Links X) (after : ℕ) (r : Option ℕ) → side ≡ Several links
      → (IsIndexed rank amount links → ((other m : ℕ) → rank_at rank links.rows.entries other ≡ Some m → m ≡ 0) → IsLeast (behind after (rank_at rank links.rows.entries)) r)
      → IsWhole rank amount side → ((other m : ℕ) → rank_at rank (links_of side) other ≡ Some m → m ≡ 0) → IsLeast (behind after (rank_at rank (links_of side))) r
  several_first_after amount side links after r is first =
      subst (λ s. IsWhole rank amount s → ((other m : ℕ) → rank_at rank (links_of s) other ≡ Some m → m ≡ 0) → IsLeast (behind after (rank_at rank (links_of s))) r) (sym is) first

  -- they stand in order
  pub whole_ordered : (amount : X → ℕ) (side : Side X) → IsWhole rank amount side → InOrder (links_of side)
  unfolding IsStrictlySortedBy
  whole_ordered amount Empty whole = tt
  whole_ordered amount (One id link) whole = (tt, tt)
  whole_ordered amount (Several links) whole = whole.ordered

pub no_other_ordered : {X : Type 0} (side : Side X) (id : ℕ) → has_no_other side id ≡ true → InOrder (links_of side)
unfolding IsStrictlySortedBy
no_other_ordered Empty id is = tt
no_other_ordered (One one link) id is = (tt, tt)
no_other_ordered {X} (Several links) id is = empty links.rows.entries is
  where
    empty : (es : List (ℕ × X)) → (length es == 0) ≡ true → InOrder es
    empty [] is = tt
    empty (e ∷ es) is = let none : length (e ∷ es) ≡ 0 = eqb-true (length (e ∷ es)) 0 is in absurd (omega (arith, none))
