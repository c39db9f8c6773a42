-- What is at an address after a change of a map.
use Rattle.std.proofs.Common.{◌≡◌, ◌∙◌, sym, ap, refl, ℕ, Bool, true, false, true≢false, cond, Some, option_map, List, [], ◌∷◌}
use Rattle.std.specs.BTreeMap.{insert_entry}
use Rattle.std.specs.Cmp.Lexicographic.{slice_cmp}
use Rattle.std.specs.Map.{lookup, remove_entry, set_value}
use Rattle.std.specs.Ordering.{nat_cmp, is_eq, match_ordering}
use Rattle.std.specs.Str.{bytes_eq}
use Rattle.std.specs.declared.cmp.Ordering.{Ordering}
use Rattle.std.specs.declared.cmp.Ordering.TheVariants.{Less, Equal, Greater}
use Rattle.std.proofs.lemmas.Map.Text.{is_eq-slice_cmp}
use Rattle.std.proofs.lemmas.Slice.Eq.{bytes_eq-Decides}
use Rattle.state_pools.specs.Addresses.{at_address}

-- the two cases of a test
pub by_test : {P : Type 0} (b : Bool) → ((b ≡ true) → P) → ((b ≡ false) → P) → P
by_test true f g = f refl
by_test false f g = g refl

pub same_bytes : (a b : List ℕ) → bytes_eq a b ≡ true → a ≡ b
same_bytes a b h = (bytes_eq-Decides a b).0 h

pub equal_bytes : (a b : List ℕ) → a ≡ b → bytes_eq a b ≡ true
equal_bytes a b h = (bytes_eq-Decides a b).1 h

pub turned : (a b : List ℕ) → bytes_eq a b ≡ bytes_eq b a
turned a b = by_test (bytes_eq b a)
    (λ e. equal_bytes a b (sym (same_bytes b a e)) ∙ sym e)
    (λ e. by_test (bytes_eq a b) (λ f. absurd (true≢false (sym (equal_bytes b a (sym (same_bytes a b f))) ∙ e))) (λ f. f ∙ sym e))

module _ {K V : Type 0} (read : K → List ℕ) where
  -- as maps look it up
  pub lookup_is : (es : List (K × V)) (a : List ℕ) → lookup (λ k. is_eq (slice_cmp nat_cmp a (read k))) es ≡ at_address es read a
  lookup_is [] a = refl
  lookup_is (e ∷ es) a = rw (is_eq-slice_cmp a (read e.0), lookup_is es a) refl

  -- after a value is written
  pub set_at : (es : List (K × V)) (q a : List ℕ) (w : V) → at_address (set_value (λ k. is_eq (slice_cmp nat_cmp q (read k))) es w) read a ≡ cond (bytes_eq q a) (option_map (λ v. w) (at_address es read a)) (at_address es read a)
  set_at [] q a w = by_test (bytes_eq q a) (λ e. rw e refl) (λ e. rw e refl)
  set_at (e ∷ es) q a w = by_head (bytes_eq q (read e.0)) refl (set_at es q a w)
    where
      by_head : (b : Bool) → bytes_eq q (read e.0) ≡ b
          → at_address (set_value (λ k. is_eq (slice_cmp nat_cmp q (read k))) es w) read a ≡ cond (bytes_eq q a) (option_map (λ v. w) (at_address es read a)) (at_address es read a)
          → at_address (cond (is_eq (slice_cmp nat_cmp q (read e.0))) ((e.0, w) ∷ es) (e ∷ set_value (λ k. is_eq (slice_cmp nat_cmp q (read k))) es w)) read a
          ≡ cond (bytes_eq q a) (option_map (λ v. w) (at_address (e ∷ es) read a)) (at_address (e ∷ es) read a)
      by_head true is rest =
          rw (is_eq-slice_cmp q (read e.0), is)
          (by_test (bytes_eq a (read e.0))
          (λ f. let both : bytes_eq q a ≡ true = equal_bytes q a (same_bytes q (read e.0) is ∙ sym (same_bytes a (read e.0) f)) in rw (f, both) refl)
          (λ f. by_test (bytes_eq q a)
          (λ g. absurd (true≢false (sym (equal_bytes a (read e.0) (sym (same_bytes q a g) ∙ same_bytes q (read e.0) is)) ∙ f)))
          (λ g. rw (f, g) refl)))
      by_head false is rest =
          rw (is_eq-slice_cmp q (read e.0), is)
          (by_test (bytes_eq a (read e.0))
          (λ f. by_test (bytes_eq q a)
          (λ g. absurd (true≢false (sym (equal_bytes q (read e.0) (same_bytes q a g ∙ same_bytes a (read e.0) f)) ∙ is)))
          (λ g. rw (f, g) refl))
          (λ f. rw f rest))

  -- after an entry is added
  pub insert_at : (es : List (K × V)) (k : K) (v : V) (a : List ℕ) → at_address (insert_entry (λ x y. slice_cmp nat_cmp (read x) (read y)) es k v) read a ≡ cond (bytes_eq (read k) a) (Some v) (at_address es read a)
  insert_at [] k v a = rw (turned a (read k)) refl
  insert_at (e ∷ es) k v a = by_order (slice_cmp nat_cmp (read k) (read e.0)) refl (insert_at es k v a)
    where
      by_order : (o : Ordering) → slice_cmp nat_cmp (read k) (read e.0) ≡ o
          → at_address (insert_entry (λ x y. slice_cmp nat_cmp (read x) (read y)) es k v) read a ≡ cond (bytes_eq (read k) a) (Some v) (at_address es read a)
          → at_address (match_ordering o ((k, v) ∷ e ∷ es) ((e.0, v) ∷ es) (e ∷ insert_entry (λ x y. slice_cmp nat_cmp (read x) (read y)) es k v)) read a ≡ cond (bytes_eq (read k) a) (Some v) (at_address (e ∷ es) read a)
      by_order Less is rest = ap (λ b. cond b (Some v) (at_address (e ∷ es) read a)) (turned a (read k))
      by_order Equal is rest =
          let same : read k ≡ read e.0 = same_bytes (read k) (read e.0) (sym (is_eq-slice_cmp (read k) (read e.0)) ∙ ap is_eq is) in
          let test : bytes_eq a (read e.0) ≡ bytes_eq (read k) a = ap (bytes_eq a) (sym same) ∙ turned a (read k) in
          by_test (bytes_eq (read k) a) (λ f. rw (test, f) refl) (λ f. rw (test, f) refl)
      by_order Greater is rest =
          let other : bytes_eq (read k) (read e.0) ≡ false = sym (is_eq-slice_cmp (read k) (read e.0)) ∙ ap is_eq is in
          by_test (bytes_eq a (read e.0))
          (λ f. by_test (bytes_eq (read k) a)
          (λ g. absurd (true≢false (sym (equal_bytes (read k) (read e.0) (same_bytes (read k) a g ∙ same_bytes a (read e.0) f)) ∙ other)))
          (λ g. rw (f, g) refl))
          (λ f. rw f rest)

  -- after another is removed
  pub removed_elsewhere : (es : List (K × V)) (q a : List ℕ) → bytes_eq q a ≡ false → at_address (remove_entry (λ k. is_eq (slice_cmp nat_cmp q (read k))) es) read a ≡ at_address es read a
  removed_elsewhere [] q a other = refl
  removed_elsewhere (e ∷ es) q a other = by_head (bytes_eq q (read e.0)) refl (removed_elsewhere es q a other)
    where
      by_head : (b : Bool) → bytes_eq q (read e.0) ≡ b → at_address (remove_entry (λ k. is_eq (slice_cmp nat_cmp q (read k))) es) read a ≡ at_address es read a
          → at_address (cond (is_eq (slice_cmp nat_cmp q (read e.0))) es (e ∷ remove_entry (λ k. is_eq (slice_cmp nat_cmp q (read k))) es)) read a ≡ at_address (e ∷ es) read a
      by_head true is rest =
          rw (is_eq-slice_cmp q (read e.0), is)
          (by_test (bytes_eq a (read e.0))
          (λ f. absurd (true≢false (sym (equal_bytes q a (same_bytes q (read e.0) is ∙ sym (same_bytes a (read e.0) f))) ∙ other)))
          (λ f. rw f refl))
      by_head false is rest =
          rw (is_eq-slice_cmp q (read e.0), is)
          (by_test (bytes_eq a (read e.0))
          (λ f. rw f refl)
          (λ f. rw f rest))
