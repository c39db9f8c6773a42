-- Addresses in a set.
use Rattle.std.proofs.Common.{◌≡◌, ◌∙◌, sym, ap, refl, ℕ, Bool, true, false, ◌||◌, length, Option, Some, None, IfSome, All, List, [], ◌∷◌}
use Rattle.std.specs.BTreeMap.Range.{IsLtBy}
use Rattle.std.specs.BTreeSet.{insert_key}
use Rattle.std.specs.Cmp.Lexicographic.{slice_cmp}
use Rattle.std.specs.List.{AllByRecursion, list_any}
use Rattle.std.specs.Ordering.{nat_cmp, is_eq, match_ordering}
use Rattle.std.specs.Str.{bytes_eq}
use Rattle.std.specs.declared.cmp.Ordering.{Ordering}
use Rattle.std.specs.declared.cmp.Ordering.TheVariants.{Less, Equal, Greater}
use Rattle.std.proofs.lemmas.Cmp.{nat_list_cmp_total}
use Rattle.std.proofs.lemmas.List.Elements.{recursion_from_All}
use Rattle.std.proofs.lemmas.Map.Text.{is_eq-slice_cmp}
use Rattle.state_pools.specs.Addresses.{among}
use Rattle.state_pools.proofs.AtAddress.{equal_bytes, same_bytes, turned}
use Rattle.state_pools.proofs.Written.{none}
use Rattle.std.specs.Prelude.{◌==◌}

module _ {K : Type 0} (read : K → List ℕ) where
  -- as sets look it up
  pub any_is : (ks : List K) (a : List ℕ) → list_any (λ k. is_eq (slice_cmp nat_cmp a (read k))) ks ≡ among ks read a
  any_is [] a = refl
  any_is (k ∷ ks) a = rw (is_eq-slice_cmp a (read k), any_is ks a) refl

  insert_among : (ks : List K) (k : K) (a : List ℕ) → among (insert_key (λ x y. slice_cmp nat_cmp (read x) (read y)) ks k) read a ≡ (bytes_eq (read k) a || among ks read a)
  insert_among [] k a = ap (λ b. b || false) (turned a (read k))
  insert_among (x ∷ xs) k a = by_order (slice_cmp nat_cmp (read k) (read x)) refl (insert_among xs k a)
    where
      swapped : (b c d : Bool) → (b || (c || d)) ≡ (c || (b || d))
      swapped true true d = refl
      swapped true false d = refl
      swapped false true d = refl
      swapped false false d = refl

      twice : (b d : Bool) → (b || d) ≡ (b || (b || d))
      twice true d = refl
      twice false d = refl

      by_order : (o : Ordering) → slice_cmp nat_cmp (read k) (read x) ≡ o → among (insert_key (λ x y. slice_cmp nat_cmp (read x) (read y)) xs k) read a ≡ (bytes_eq (read k) a || among xs read a)
          → among (match_ordering o (k ∷ x ∷ xs) (x ∷ xs) (x ∷ insert_key (λ x y. slice_cmp nat_cmp (read x) (read y)) xs k)) read a ≡ (bytes_eq (read k) a || among (x ∷ xs) read a)
      by_order Less is rest = ap (λ b. b || among (x ∷ xs) read a) (turned a (read k))
      by_order Equal is rest =
          let same : read k ≡ read x = same_bytes (read k) (read x) (sym (is_eq-slice_cmp (read k) (read x)) ∙ ap is_eq is) in
          twice (bytes_eq a (read x)) (among xs read a) ∙ ap (λ b. b || (bytes_eq a (read x) || among xs read a)) (ap (bytes_eq a) (sym same) ∙ turned a (read k))
      by_order Greater is rest = ap (λ b. bytes_eq a (read x) || b) rest ∙ swapped (bytes_eq a (read x)) (bytes_eq (read k) a) (among xs read a)

  -- one was added
  pub come : (ks new : List K) (k : K) (a : List ℕ) → read k ≡ a → new ≡ insert_key (λ x y. slice_cmp nat_cmp (read x) (read y)) ks k → among new read a ≡ true
  come ks new k a is set = ap (λ l. among l read a) set ∙ insert_among ks k a ∙ ap (λ b. b || among ks read a) (equal_bytes (read k) a is)

  pub not_before : (ks new : List K) (k : K) (a : List ℕ) → new ≡ insert_key (λ x y. slice_cmp nat_cmp (read x) (read y)) ks k → among new read a ≡ false → among ks read a ≡ false
  not_before ks new k a set none = right (bytes_eq (read k) a) (among ks read a) (sym (insert_among ks k a) ∙ sym (ap (λ l. among l read a) set) ∙ none)
    where
      right : (b c : Bool) → (b || c) ≡ false → c ≡ false
      right true c h = absurd cc
      right false c h = h

  below_all : (k : K) (ks : List K) (a : List ℕ) → slice_cmp nat_cmp a (read k) ≡ Less → AllByRecursion (λ q. slice_cmp nat_cmp (read k) (read q) ≡ Less) ks → among ks read a ≡ false
  below_all k [] a less all = refl
  below_all k (x ∷ xs) a less all =
      let below : slice_cmp nat_cmp a (read x) ≡ Less = nat_list_cmp_total.trans a (read k) (read x) less all.0 in
      rw (sym (is_eq-slice_cmp a (read x)) ∙ ap is_eq below) (below_all k xs a less all.1)

  -- below the first there is none
  pub popped : (r : Option K) (old new : List K) → IfSome r (λ k. old ≡ k ∷ new) → IfSome r (λ k. All (IsLtBy (λ x y. slice_cmp nat_cmp (read x) (read y)) k) new)
      → IfSome r (λ first. (a : List ℕ) → slice_cmp nat_cmp a (read first) ≡ Less → among old read a ≡ false)
  popped None old new removal above = tt
  popped (Some k) old new removal above = λ a less.
      ap (λ l. among l read a) removal ∙ ap (λ b. b || among new read a) (sym (is_eq-slice_cmp a (read k)) ∙ ap is_eq less)
      ∙ below_all k new a less (recursion_from_All (λ q. slice_cmp nat_cmp (read k) (read q) ≡ Less) new above)

  -- where there is none, there is none at any address
  pub none_among : (ks : List K) (a : List ℕ) → (length ks == 0) ≡ true → among ks read a ≡ false
  none_among ks a empty = ap (λ l. among l read a) (none ks empty)

-- tests of which neither, or one, is met
pub left_false : (b c : Bool) → (b || c) ≡ false → b ≡ false
left_false true c h = h
left_false false c h = refl

pub right_false : (b c : Bool) → (b || c) ≡ false → c ≡ false
right_false true c h = absurd cc
right_false false c h = h

pub neither : (b c : Bool) → b ≡ false → c ≡ false → (b || c) ≡ false
neither b c e f = ap (λ x. x || c) e ∙ f

pub either_right : (b c : Bool) → c ≡ true → (b || c) ≡ true
either_right true c h = refl
either_right false c h = h

-- one address isn't another one before it
pub not_it : (q a : List ℕ) → slice_cmp nat_cmp a q ≡ Less → bytes_eq q a ≡ false
not_it q a less = turned q a ∙ sym (is_eq-slice_cmp a q) ∙ ap is_eq less
