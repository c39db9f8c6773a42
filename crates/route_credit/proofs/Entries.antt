-- Lists of links in the order of their numbers.
use Rattle.std.proofs.Common.{◌≡◌, ◌∙◌, sym, ap, refl, ℕ, Bool, true, false, not, cond, ◌<◌, ◌⊎◌, ⊎_elim, Some, None, List, [], ◌∷◌, arith}
use Rattle.std.specs.Prelude.{◌==◌, nat_lt}
use Rattle.std.specs.List.{AllByRecursion}
use Rattle.std.specs.List.Sorted.{IsStrictlySortedBy}
use Rattle.std.specs.BTreeMap.{is_at}
use Rattle.std.specs.Map.{keys_of, set_value}
use Rattle.std.specs.Ordering.{nat_cmp, match_ordering, is_eq}
use Rattle.std.specs.declared.cmp.Ordering.{Ordering}
use Rattle.std.specs.declared.cmp.Ordering.TheVariants.{Less, Equal, Greater}
use Rattle.std.proofs.lemmas.Bool.{cases_order, eqb-true, eq-eqb, ltb-true, lt-ltb, ne_eqb}
use Rattle.route_credit.specs.Links.{link_at, with_link, without_link}
use Rattle.route_credit.proofs.Indices.{same_test}
use Rattle.route_credit.proofs.Moved.{by_test}

-- in order of their numbers
abbrev pub InOrder : {X : Type 0} → List (ℕ × X) → Type 0
InOrder links = IsStrictlySortedBy nat_cmp (keys_of links)

pub less_is : (a b : ℕ) → a < b → nat_cmp a b ≡ Less
less_is a b l = rw (lt-ltb a b l) refl

pub is_less : (a b : ℕ) → nat_cmp a b ≡ Less → a < b
is_less a b h = by_test (nat_lt a b) (λ e. ltb-true a b e) (λ e. by_test (a == b) (λ f. absurd (no (rw (e, f) at h))) (λ f. absurd (no2 (rw (e, f) at h))))
  where
    no : Equal ≡ Less → ⊥
    no h = cc

    no2 : Greater ≡ Less → ⊥
    no2 h = cc

-- each number of a list is above one
abbrev pub Above : ℕ → List ℕ → Type 0
Above id ids = AllByRecursion (λ other. nat_cmp id other ≡ Less) ids

pub above_more : (a b : ℕ) (ids : List ℕ) → a < b → Above b ids → Above a ids
above_more a b [] l all = tt
above_more a b (i ∷ is) l all = (let k : b < i = is_less b i all.0 in less_is a i (omega (arith, l, k)), above_more a b is l all.1)

module _ {X : Type 0} where
  -- the first link is found by its number
  pub here : (e : ℕ × X) (es : List (ℕ × X)) → link_at (e ∷ es) e.0 ≡ Some e.1
  here e es = ap (λ b. cond b (Some e.1) (link_at es e.0)) (same_test e.0 e.0 ∙ eq-eqb e.0 e.0 refl)

  -- another one is found after it
  pub after_first : (e : ℕ × X) (es : List (ℕ × X)) (q : ℕ) → (q ≡ e.0 → ⊥) → link_at (e ∷ es) q ≡ link_at es q
  after_first e es q other = ap (λ b. cond b (Some e.1) (link_at es q)) (same_test q e.0 ∙ ne_eqb q e.0 other)

  -- what is found in a list has a number of the list
  pub none_above : (es : List (ℕ × X)) (id : ℕ) → Above id (keys_of es) → link_at es id ≡ None
  none_above [] id all = refl
  none_above (e ∷ es) id all = after_first e es id (λ same. let l : id < e.0 = is_less id e.0 all.0 in absurd (omega (arith, l, same))) ∙ none_above es id all.1

  -- a number below the first
  pub none_below : (e : ℕ × X) (es : List (ℕ × X)) (id : ℕ) → InOrder (e ∷ es) → id < e.0 → link_at (e ∷ es) id ≡ None
  unfolding IsStrictlySortedBy
  none_below e es id ordered below = none_above (e ∷ es) id (less_is id e.0 below, above_more id e.0 (keys_of es) below ordered.0)

  -- the number of a link that is found is above what all numbers are above
  pub found_above : (es : List (ℕ × X)) (id q : ℕ) (x : X) → Above id (keys_of es) → link_at es q ≡ Some x → id < q
  found_above [] id q x all found = absurd (no x found)
    where
      no : (x : X) → None ≡ Some x → ⊥
      no x h = cc
  found_above (e ∷ es) id q x all found = by_test (q == e.0)
      (λ f. let l : id < e.0 = is_less id e.0 all.0 in let s : q ≡ e.0 = eqb-true q e.0 f in omega (arith, l, s))
      (λ f. found_above es id q x all.1 (sym (ap (λ b. cond b (Some e.1) (link_at es q)) (same_test q e.0 ∙ f)) ∙ found))

  -- two lists in order are one if look-ups find the same in both
  pub same_entries : (es fs : List (ℕ × X)) → InOrder es → InOrder fs → ((q : ℕ) → link_at es q ≡ link_at fs q) → es ≡ fs
  unfolding IsStrictlySortedBy
  same_entries [] [] s t same = refl
  same_entries [] (f ∷ fs) s t same = absurd (no f.1 (same f.0 ∙ here f fs))
    where
      no : (x : X) → None ≡ Some x → ⊥
      no x h = cc
  same_entries (e ∷ es) [] s t same = absurd (no e.1 (sym (same e.0) ∙ here e es))
    where
      no : (x : X) → None ≡ Some x → ⊥
      no x h = cc
  same_entries (e ∷ es) (f ∷ fs) s t same = joined (first (cases_order e.0 f.0)) (same_entries es fs s.1 t.1)
    where
      no : (x : X) → None ≡ Some x → ⊥
      no x h = cc

      first : (e.0 ≡ f.0) ⊎ ((e.0 < f.0) ⊎ (f.0 < e.0)) → e.0 ≡ f.0
      first cases = ⊎_elim (λ is. is)
          (λ rest. ⊎_elim
          (λ l. absurd (no e.1 (sym (none_below f fs e.0 t l) ∙ sym (same e.0) ∙ here e es)))
          (λ l. absurd (no f.1 (sym (none_below e es f.0 s l) ∙ same f.0 ∙ here f fs)))
          rest)
          cases

      some : (x y : X) → Some x ≡ Some y → x ≡ y
      some x y h = cc

      joined : e.0 ≡ f.0 → (((q : ℕ) → link_at es q ≡ link_at fs q) → es ≡ fs) → e ∷ es ≡ f ∷ fs
      joined is rest =
          let value : e.1 ≡ f.1 = some e.1 f.1 (sym (here e es) ∙ same e.0 ∙ ap (link_at (f ∷ fs)) is ∙ here f fs) in
          let tail : es ≡ fs = rest (λ q. by_test (q == e.0)
          (λ g. let at : q ≡ e.0 = eqb-true q e.0 g in
          ap (link_at es) at ∙ none_above es e.0 s.0 ∙ sym (none_above fs f.0 t.0) ∙ ap (link_at fs) (sym (at ∙ is)))
          (λ g. sym (ap (λ b. cond b (Some e.1) (link_at es q)) (same_test q e.0 ∙ g)) ∙ same q ∙ ap (λ b. cond b (Some f.1) (link_at fs q)) (same_test q f.0 ∙ ap (λ n. q == n) (sym is) ∙ g))) in
          λ i. (is i, value i) ∷ tail i

  above_with : (n : ℕ) (es : List (ℕ × X)) (id : ℕ) (x : X) → n < id → Above n (keys_of es) → Above n (keys_of (with_link es id x))
  above_with n [] id x below all = (less_is n id below, tt)
  above_with n (e ∷ es) id x below all = by_order (nat_cmp id e.0) (above_with n es id x below all.1)
    where
      by_order : (o : Ordering) → Above n (keys_of (with_link es id x)) → Above n (keys_of (match_ordering o ((id, x) ∷ e ∷ es) ((e.0, x) ∷ es) (e ∷ with_link es id x)))
      by_order Less rest = (less_is n id below, all)
      by_order Equal rest = all
      by_order Greater rest = (all.0, rest)

  -- a list stays in order when a link comes
  pub with_ordered : (es : List (ℕ × X)) (id : ℕ) (x : X) → InOrder es → InOrder (with_link es id x)
  unfolding IsStrictlySortedBy
  with_ordered [] id x s = (tt, tt)
  with_ordered (e ∷ es) id x s = by_order (nat_cmp id e.0) refl (with_ordered es id x s.1)
    where
      above : nat_cmp id e.0 ≡ Greater → e.0 < id
      above is = by_test (nat_lt id e.0) (λ f. absurd (no (rw f at is))) (λ f. by_test (id == e.0) (λ g. absurd (no2 (rw (f, g) at is))) (λ g. grind (arith, f, g)))
        where
          no : Less ≡ Greater → ⊥
          no h = cc

          no2 : Equal ≡ Greater → ⊥
          no2 h = cc

      by_order : (o : Ordering) → nat_cmp id e.0 ≡ o → InOrder (with_link es id x) → InOrder (match_ordering o ((id, x) ∷ e ∷ es) ((e.0, x) ∷ es) (e ∷ with_link es id x))
      by_order Less is rest = ((is, above_more id e.0 (keys_of es) (is_less id e.0 is) s.0), s)
      by_order Equal is rest = s
      by_order Greater is rest = (above_with e.0 es id x (above is) s.0, rest)

  above_without : (n : ℕ) (es : List (ℕ × X)) (id : ℕ) → Above n (keys_of es) → Above n (keys_of (without_link es id))
  above_without n [] id all = tt
  above_without n (e ∷ es) id all = by_head (id == e.0) (above_without n es id all.1)
    where
      by_head : (b : Bool) → Above n (keys_of (without_link es id)) → Above n (keys_of (cond (not b) (e ∷ without_link es id) (without_link es id)))
      by_head true rest = rest
      by_head false rest = (all.0, rest)

  -- and when one leaves
  pub without_ordered : (es : List (ℕ × X)) (id : ℕ) → InOrder es → InOrder (without_link es id)
  unfolding IsStrictlySortedBy
  without_ordered [] id s = tt
  without_ordered (e ∷ es) id s = by_head (id == e.0) (without_ordered es id s.1)
    where
      by_head : (b : Bool) → InOrder (without_link es id) → InOrder (cond (not b) (e ∷ without_link es id) (without_link es id))
      by_head true rest = rest
      by_head false rest = (above_without e.0 es id s.0, rest)

  -- the numbers stay the same when a link changes
  pub keys_with : (es : List (ℕ × X)) (id : ℕ) (x y : X) → InOrder es → link_at es id ≡ Some y → keys_of (with_link es id x) ≡ keys_of es
  unfolding IsStrictlySortedBy
  keys_with [] id x y s found = absurd (no y found)
    where
      no : (x : X) → None ≡ Some x → ⊥
      no x h = cc
  keys_with (e ∷ es) id x y s found = by_order (nat_cmp id e.0) refl (keys_with es id x y s.1)
    where
      no : (x : X) → None ≡ Some x → ⊥
      no x h = cc

      by_order : (o : Ordering) → nat_cmp id e.0 ≡ o → (link_at es id ≡ Some y → keys_of (with_link es id x) ≡ keys_of es)
          → keys_of (match_ordering o ((id, x) ∷ e ∷ es) ((e.0, x) ∷ es) (e ∷ with_link es id x)) ≡ e.0 ∷ keys_of es
      by_order Less is rest = absurd (no y (sym (none_below e es id s (is_less id e.0 is)) ∙ found))
      by_order Equal is rest = refl
      by_order Greater is rest = ap (λ ids. e.0 ∷ ids) (rest (sym (ap (λ o. cond (is_eq o) (Some e.1) (link_at es id)) is) ∙ found))

  -- what is known of a link is written where it stands
  pub written_is : (es : List (ℕ × X)) (id : ℕ) (x y : X) → InOrder es → Some y ≡ link_at es id → set_value (is_at (nat_cmp id)) es x ≡ with_link es id x
  unfolding IsStrictlySortedBy
  written_is [] id x y s found = absurd (no y (sym found))
    where
      no : (x : X) → None ≡ Some x → ⊥
      no x h = cc
  written_is (e ∷ es) id x y s found = by_order (nat_cmp id e.0) refl (written_is es id x y s.1)
    where
      no : (x : X) → None ≡ Some x → ⊥
      no x h = cc

      by_order : (o : Ordering) → nat_cmp id e.0 ≡ o → (Some y ≡ link_at es id → set_value (is_at (nat_cmp id)) es x ≡ with_link es id x)
          → cond (is_at (nat_cmp id) e.0) ((e.0, x) ∷ es) (e ∷ set_value (is_at (nat_cmp id)) es x) ≡ match_ordering o ((id, x) ∷ e ∷ es) ((e.0, x) ∷ es) (e ∷ with_link es id x)
      by_order Less is rest = absurd (no y (sym (none_below e es id s (is_less id e.0 is)) ∙ sym found))
      by_order Equal is rest = ap (λ o. cond (is_eq o) ((e.0, x) ∷ es) (e ∷ set_value (is_at (nat_cmp id)) es x)) is
      by_order Greater is rest =
          ap (λ o. cond (is_eq o) ((e.0, x) ∷ es) (e ∷ set_value (is_at (nat_cmp id)) es x)) is
          ∙ ap (λ l. e ∷ l) (rest (found ∙ ap (λ o. cond (is_eq o) (Some e.1) (link_at es id)) is))
