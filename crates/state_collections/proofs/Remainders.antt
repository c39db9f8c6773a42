-- Values in the places of their numbers.
use Rattle.std.proofs.Common.{◌≡◌, ◌∙◌, sym, ap, refl, ℕ, zero, suc, ◌==◌, ◌&&◌, ◌||◌, ◌++◌, not, Bool, true, false, true≢false, List, [], ◌∷◌, length, Option, Some, None, if◌then◌else◌, arith}
use Rattle.std.specs.Prelude.{slice_get}
use Rattle.std.specs.List.{list_any, list_all}
use Rattle.std.specs.Map.{keys_of, lookup}
use Rattle.std.specs.Option.{is_some, option_map}
use Rattle.std.specs.Ordering.{nat_cmp}
use Rattle.std.specs.BTreeMap.{BTreeMap, get, is_at, btree_map_len}
use Rattle.std.specs.BTreeMap.Range.{range_contains}
use Rattle.std.specs.declared.ops.Bound.TheVariants.{Included}
use Rattle.std.proofs.lemmas.Bool.{eqb-true, eq-eqb}
use Rattle.std.proofs.lemmas.List.Folds.{list_any-append}
use Rattle.std.proofs.lemmas.Map.Made.{is_some-lookup}
use Rattle.amqp_session.specs.Ranges.{has}
use Rattle.amqp_session.proofs.Ranges.{ids_within, has_within}
use Rattle.state_collections.specs.NumberMap.{at_place, or_else, no_entry, tells}
use Rattle.state_collections.specs.declared.number_map.Entry.{Entry}
use Rattle.state_collections.proofs.Placed.{by_test, same_test}

pub or_none : (a : Bool) → a ≡ (a || false)
or_none true = refl
or_none false = refl

or_true : (a : Bool) → (a || true) ≡ true
or_true true = refl
or_true false = refl

nowhere : {V : Type 0} (value : Option V) → is_some value ≡ false → value ≡ None
nowhere None none = refl
nowhere (Some v) none = absurd (true≢false none)

-- Numbers that are appended where they have a value: one that has none, ...
pub not_told : (has : ℕ → Bool) (n k : ℕ) (before : Bool) → has k ≡ false → before ≡ (before || ((n == k) && has n))
not_told has n k before none = by_test (n == k)
    (λ e. let here : has n ≡ false = ap has (eqb-true n k e) ∙ none in rw (e, here) (or_none before))
    (λ e. rw e (or_none before))

-- ... one that has, ...
pub told : (has_value : ℕ → Bool) (n k : ℕ) (xs ys : List ℕ) → ys ≡ xs ++ k ∷ [] → has_value k ≡ true → has n ys ≡ (has n xs || ((n == k) && has_value n))
told has_value n k xs ys is some =
    ap (has n) is ∙ list_any-append (λ other. n == other) xs (k ∷ []) ∙ ap (λ b. has n xs || b) (by_test (n == k)
    (λ e. let here : has_value n ≡ true = ap has_value (eqb-true n k e) ∙ some in rw (e, here) refl)
    (λ e. rw e refl))

-- ... and those of the places, as far as they were looked at
or_of : (a p r : Bool) → ((a || p) || r) ≡ (a || (p || r))
or_of true p r = refl
or_of false p r = refl

pub one_more : {X : Type 0} (test : X → Bool) (x : X) (more : List X) (before after : Bool) → after ≡ (before || test x) → (after || list_any test more) ≡ (before || list_any test (x ∷ more))
one_more test x more before after is = rw is (or_of before (test x) (list_any test more))

pub at_end : {X : Type 0} (test : X → Bool) (rest : List X) (now all : Bool) → rest ≡ [] → (now || list_any test rest) ≡ all → now ≡ all
at_end test rest now all none is = or_none now ∙ ap (λ xs. now || list_any test xs) (sym none) ∙ is

module _ {V : Type 0} where
  none_told : (n : ℕ) (places : List (Option (Entry V))) → list_any (tells false n) places ≡ false
  none_told n [] = refl
  none_told n (None ∷ places) = none_told n places
  none_told n (Some entry ∷ places) = by_test (n == entry.number) (λ e. rw e (none_told n places)) (λ e. rw e (none_told n places))

  some_told : (n i : ℕ) (places : List (Option (Entry V))) → is_some (at_place n (slice_get places i)) ≡ true → list_any (tells true n) places ≡ true
  some_told n i [] is = absurd cc
  some_told n zero (None ∷ places) is = absurd cc
  some_told n zero (Some entry ∷ places) is = by_test (entry.number == n)
      (λ e. let here : (n == entry.number) ≡ true = eq-eqb n entry.number (sym (eqb-true entry.number n e)) in rw here refl)
      (λ e. let none : is_some (if entry.number == n then Some entry.value else None) ≡ false = rw e refl in absurd (true≢false (sym is ∙ none)))
  some_told n (suc i) (place ∷ places) is = ap (λ b. tells true n place || b) (some_told n i places is) ∙ or_true (tells true n place)

  pub all_told : (n i : ℕ) (places : List (Option (Entry V))) (found : Bool) → is_some (at_place n (slice_get places i)) ≡ found → list_any (tells found n) places ≡ found
  all_told n i places true is = some_told n i places is
  all_told n i places false is = none_told n places

  -- no place has a value
  pub no_value : (places : List (Option (Entry V))) → list_all (λ place. not (is_some place)) places ≡ true → (n i : ℕ) → at_place n (slice_get places i) ≡ None
  no_value [] empty n i = refl
  no_value (None ∷ places) empty n zero = refl
  no_value (None ∷ places) empty n (suc i) = no_value places empty n i
  no_value (Some entry ∷ places) empty n i = absurd cc

  -- places that are made
  pub none_free : (places : List (Option (Entry V))) → places ≡ [] → (i : ℕ) → no_entry (slice_get places i) ≡ true
  none_free places none i = rw none refl

  pub free_more : (places more : List (Option (Entry V))) → more ≡ places ++ None ∷ [] → ((i : ℕ) → no_entry (slice_get places i) ≡ true) → (i : ℕ) → no_entry (slice_get more i) ≡ true
  free_more places more is free i = ap (λ ps. no_entry (slice_get ps i)) is ∙ one_free places free i
    where
      one_free : (ps : List (Option (Entry V))) → ((j : ℕ) → no_entry (slice_get ps j) ≡ true) → (j : ℕ) → no_entry (slice_get (ps ++ None ∷ []) j) ≡ true
      one_free [] free zero = refl
      one_free [] free (suc j) = refl
      one_free (p ∷ ps) free zero = free zero
      one_free (p ∷ ps) free (suc j) = one_free ps (λ k. free (suc k)) j

  vacant : (n : ℕ) (place : Option (Option (Entry V))) → no_entry place ≡ true → at_place n place ≡ None
  vacant n None free = refl
  vacant n (Some None) free = refl
  vacant n (Some (Some entry)) free = absurd cc

  pub all_vacant : (places : List (Option (Entry V))) → ((i : ℕ) → no_entry (slice_get places i) ≡ true) → (n i : ℕ) → at_place n (slice_get places i) ≡ None
  all_vacant places free n i = vacant n (slice_get places i) (free i)

  pub as_before : (old new : List (Option (Entry V))) → (length old == 0) ≡ true → ((i : ℕ) → no_entry (slice_get new i) ≡ true) → (n i j : ℕ) → at_place n (slice_get new i) ≡ at_place n (slice_get old j)
  as_before [] new empty free n i j = vacant n (slice_get new i) (free i)
  as_before (place ∷ old) new empty free n i j = let none = eqb-true (length (place ∷ old)) 0 empty in absurd (omega (arith, none))

  -- a value in the ordered map, of a number that has none in its place
  pub behind : (placed other : Option V) → is_some placed ≡ false → other ≡ or_else placed other
  behind None other none = refl
  behind (Some v) other none = absurd cc

  pub other_written : (placed old new : ℕ → Option V) (number : ℕ) (w : V) → is_some (placed number) ≡ false
      → ((q : ℕ) → new q ≡ (if number == q then option_map (λ _. w) (old q) else old q)) → (q : ℕ)
      → or_else (placed q) (new q) ≡ (if number == q then option_map (λ _. w) (or_else (placed q) (old q)) else or_else (placed q) (old q))
  other_written placed old new number w none set q = ap (or_else (placed q)) (set q) ∙ by_test (number == q)
      (λ e. let nowhere : is_some (placed q) ≡ false = ap (λ k. is_some (placed k)) (sym (eqb-true number q e)) ∙ none in
      rw e (sym (behind (placed q) (option_map (λ _. w) (old q)) nowhere) ∙ ap (option_map (λ _. w)) (behind (placed q) (old q) nowhere)))
      (λ e. rw e refl)

-- values that are taken out of few places, one number after the other: what is in the few first, ...
pub all_in : {V : Type 0} (few : ℕ → Option V) (numbers : List ℕ) → ((q : ℕ) → has q numbers ≡ is_some (few q)) → (q : ℕ) → has q numbers ≡ false → few q ≡ None
all_in few numbers are q none = nowhere (few q) (sym (are q) ∙ none)

-- ... and after one more
pub taken_out : {V : Type 0} (before after : ℕ → Option V) (number : ℕ) (rest : List ℕ) → ((q : ℕ) → after q ≡ (if number == q then None else before q))
    → ((q : ℕ) → has q (number ∷ rest) ≡ false → before q ≡ None) → (q : ℕ) → has q rest ≡ false → after q ≡ None
taken_out before after number rest gone left q none = gone q ∙ by_test (number == q)
    (λ e. rw e refl)
    (λ e. let other : has q (number ∷ rest) ≡ false = by_test (q == number) (λ f. absurd (true≢false (sym (eq-eqb number q (sym (eqb-true q number f))) ∙ e))) (λ f. rw f none) in rw e (left q other))

-- neither a value in its place nor one in the ordered map
pub nothing : {V : Type 0} (placed : Option V) (others : BTreeMap ℕ V) (n : ℕ) → placed ≡ None → (btree_map_len others == 0) ≡ true → or_else placed (get nat_cmp others n) ≡ None
nothing {V} placed others n none empty = ap (λ x. or_else x (get nat_cmp others n)) none ∙ by_entries others.entries (eqb-true (length others.entries) 0 empty)
  where
    by_entries : (es : List (ℕ × V)) → length es ≡ 0 → lookup (is_at (nat_cmp n)) es ≡ None
    by_entries [] e = refl
    by_entries (x ∷ es) e = absurd (omega (arith, e))

-- the numbers of an ordered map
pub keys_told : {V : Type 0} (values : BTreeMap ℕ V) (n : ℕ) (placed : Option V) (old before now : List ℕ) → has n before ≡ (has n old || is_some placed) → now ≡ before ++ keys_of values.entries
    → has n now ≡ (has n old || is_some (or_else placed (get nat_cmp values n)))
keys_told {V} values n placed old before now first is =
    ap (has n) is ∙ list_any-append (λ other. n == other) before (keys_of values.entries)
    ∙ ap (λ b. b || has n (keys_of values.entries)) first
    ∙ ap (λ b. (has n old || is_some placed) || b) (ap (λ test. list_any test (keys_of values.entries)) (λ i k. sym (same_test n k) i) ∙ sym (is_some-lookup (is_at (nat_cmp n)) values.entries))
    ∙ or_of (has n old) (is_some placed) (is_some (get nat_cmp values n))
    ∙ ap (λ b. has n old || b) (either placed (get nat_cmp values n))
  where
    either : (x y : Option V) → (is_some x || is_some y) ≡ is_some (or_else x y)
    either None y = refl
    either (Some v) y = refl

-- the numbers of a part of an ordered map
pub listed : {V : Type 0} (placed : ℕ → Bool) (values : BTreeMap ℕ V) (low high n : ℕ) (old before now : List ℕ) → has n before ≡ (has n old || placed n)
    → now ≡ before ++ ids_within low high values.entries
    → has n now ≡ (has n old || (placed n || (range_contains nat_cmp (Included low) (Included high) n && is_some (get nat_cmp values n))))
listed placed values low high n old before now first is =
    ap (has n) is ∙ list_any-append (λ other. n == other) before (ids_within low high values.entries)
    ∙ ap (λ b. b || has n (ids_within low high values.entries)) first
    ∙ ap (λ b. (has n old || placed n) || b) (has_within low high n values.entries)
    ∙ or_of (has n old) (placed n) (range_contains nat_cmp (Included low) (Included high) n && is_some (get nat_cmp values n))
