-- Lists of ids, and what a range has.
use Rattle.std.proofs.Common.{◌≡◌, ◌≢◌, ◌∙◌, ◌⊎◌, inl, inr, Option, Some, None, ◌++◌, ◌&&◌, ◌||◌, ◌+◌, ◌%◌, ◌^◌, ◌<◌, ◌≤◌, ◌==◌, ℕ, Bool, true, false, refl, sym, ap, subst, arith, List, [], ◌∷◌}
use Rattle.std.specs.Prelude.{nat_lt, nat_le}
use Rattle.std.specs.List.{AllByRecursion}
use Rattle.std.specs.List.Sorted.{IsStrictlySortedBy}
use Rattle.std.specs.Cmp.{nat_cmp_is}
use Rattle.std.specs.declared.cmp.Ordering.TheVariants.{Less}
use Rattle.std.proofs.lemmas.Bool.{both_ways, eqb-true, eqb-false, ltb-true, lt-ltb, le-ltb, ltb-false, leb-true, le-leb}
use Rattle.std.proofs.lemmas.List.Folds.{list_any-append}
use Rattle.amqp_session.specs.Serials.{distance}
use Rattle.amqp_session.specs.Ranges.{in_range, has, by_distance, IsRising}
use Rattle.state_collections.specs.Ids.{IsAsked}
use Rattle.std.specs.Option.{is_some}
use Rattle.std.specs.BTreeMap.{get}
use Rattle.std.specs.BTreeMap.Range.{range_contains}
use Rattle.std.specs.Ordering.{nat_cmp, is_le, is_lt}
use Rattle.std.specs.declared.ops.Bound.TheVariants.{Included}
use Rattle.state_collections.specs.NumberMap.{at_number, in_places, is_listed, or_else}
use Rattle.state_collections.specs.declared.number_map.NumberMap.{NumberMap}
use Rattle.state_collections.proofs.Placed.{by_test}

-- a list of one id
alone : (first id : ℕ) → IsRising first (id ∷ [])
unfolding IsStrictlySortedBy
alone first id = (tt, tt)

pub one_rises : (first id : ℕ) (before after : List ℕ) → before ≡ [] → after ≡ before ++ id ∷ [] → IsRising first after
one_rises first id before after none is = subst (IsRising first) (sym (is ∙ ap (λ xs. xs ++ id ∷ []) none)) (alone first id)

same_truth : (a b : Bool) → (a ≡ true → b ≡ true) → (b ≡ true → a ≡ true) → a ≡ b
same_truth true b there back = sym (there refl)
same_truth false true there back = back refl
same_truth false false there back = refl

-- Ids that are asked one by one: the id of each step, ...
at_step : (first step q : ℕ) → first < 2 ^ 32 → q < 2 ^ 32 → distance first q ≡ step → q ≡ (first + step) % 2 ^ 32
at_step first step q f s is = grind arith

step_of : (first step : ℕ) → first < 2 ^ 32 → step < 2 ^ 32 → distance first ((first + step) % 2 ^ 32) ≡ step
step_of first step f s = grind arith

more_steps : (d step : ℕ) → d ≢ step → nat_lt d (step + 1) ≡ nat_lt d step
more_steps d step other = same_truth (nat_lt d (step + 1)) (nat_lt d step)
    (λ h. let l : d < step + 1 = ltb-true d (step + 1) h in lt-ltb d step (omega (arith, l, other)))
    (λ h. let l : d < step = ltb-true d step h in lt-ltb d (step + 1) (omega (arith, l)))

-- ... those that were asked before, ...
nearer : (first step : ℕ) (ids : List ℕ) → AllByRecursion (λ id. distance first id < step) ids → AllByRecursion (λ id. distance first id < step + 1) ids
nearer first step [] near = tt
nearer first step (id ∷ ids) near = (let l = near.0 in omega (arith, l), nearer first step ids near.1)

all_after : (P : ℕ → Type 0) (ids : List ℕ) (id : ℕ) → AllByRecursion P ids → P id → AllByRecursion P (ids ++ id ∷ [])
all_after P [] id all one = (one, tt)
all_after P (x ∷ ids) id all one = (all.0, all_after P ids id all.1 one)

rises : (first : ℕ) (ids : List ℕ) (id : ℕ) → IsRising first ids → AllByRecursion (λ x. distance first x < distance first id) ids → IsRising first (ids ++ id ∷ [])
unfolding IsStrictlySortedBy
rises first [] id rising near = (tt, tt)
rises first (x ∷ ids) id rising near =
    (all_after (λ y. by_distance first x y ≡ Less) ids id rising.0 (sym (nat_cmp_is (distance first x) (distance first id) Less near.0)), rises first ids id rising.1 near.1)

-- ... and one more, which isn't there, ...
pub one_lacks : (first step id : ℕ) (there : ℕ → Bool) (ids : List ℕ) → first < 2 ^ 32 → id ≡ (first + step) % 2 ^ 32 → there id ≡ false
    → IsAsked first there step ids → IsAsked first there (step + 1) ids
one_lacks first step id there ids f is lacks asked = record {
  exact = λ q low. asked.exact q low ∙ by_test (there q)
      (λ e. ap (λ b. b && there q) (sym (more_steps (distance first q) step (λ at. both_ways (there q) (ap there (at_step first step q f low at ∙ sym is) ∙ lacks) e))))
      (λ e. rw e (none (nat_lt (distance first q) step) (nat_lt (distance first q) (step + 1))));
  rising = asked.rising;
  near = nearer first step ids asked.near;
}
  where
    none : (a b : Bool) → (a && false) ≡ (b && false)
    none true true = refl
    none true false = refl
    none false true = refl
    none false false = refl

-- ... or is
pub one_there : (first step id : ℕ) (there : ℕ → Bool) (ids more : List ℕ) → first < 2 ^ 32 → step < 2 ^ 32 → id ≡ (first + step) % 2 ^ 32 → there id ≡ true
    → more ≡ ids ++ id ∷ [] → IsAsked first there step ids → IsAsked first there (step + 1) more
one_there first step id there ids more f s is here added asked = record {
  exact = λ q low. ap (has q) added ∙ list_any-append (λ other. q == other) ids (id ∷ []) ∙ ap (λ b. b || ((q == id) || false)) (asked.exact q low) ∙ by_test (q == id)
      (λ e. let same : q ≡ id = eqb-true q id e in
      let there_too : there q ≡ true = ap there same ∙ here in
      let before : nat_lt (distance first q) (step + 1) ≡ true = lt-ltb (distance first q) (step + 1) (let d : distance first q ≡ step = ap (distance first) same ∙ at in omega (arith, d)) in
      rw (e, there_too, before) (or_true (nat_lt (distance first q) step && true)))
      (λ e. rw e (or_false (nat_lt (distance first q) step && there q)
      ∙ ap (λ b. b && there q) (sym (more_steps (distance first q) step (λ d. eqb-false q id e (at_step first step q f low d ∙ sym is))))));
  rising = subst (IsRising first) (sym added) (rises first ids id asked.rising (subst (λ d. AllByRecursion (λ x. distance first x < d) ids) (sym at) asked.near));
  near = subst (λ xs. AllByRecursion (λ x. distance first x < step + 1) xs) (sym added) (all_after (λ x. distance first x < step + 1) ids id (nearer first step ids asked.near) (omega (arith, at)));
}
  where
    at : distance first id ≡ step
    at = ap (distance first) is ∙ step_of first step f s

    or_true : (a : Bool) → (a || (true || false)) ≡ true
    or_true true = refl
    or_true false = refl

    or_false : (a : Bool) → (a || (false || false)) ≡ a
    or_false true = refl
    or_false false = refl

-- none yet
nothing_asked : (first : ℕ) (there : ℕ → Bool) → IsAsked first there 0 []
unfolding IsStrictlySortedBy
nothing_asked first there = record { exact = λ q low. sym (ap (λ b. b && there q) (le-ltb (distance first q) 0 (omega arith))); rising = tt; near = tt }

pub none_asked : (first : ℕ) (there : ℕ → Bool) (ids : List ℕ) → ids ≡ [] → IsAsked first there 0 ids
none_asked first there ids none = subst (IsAsked first there 0) (sym none) (nothing_asked first there)

-- all
pub all_asked : (first last steps : ℕ) (there : ℕ → Bool) (ids : List ℕ) → distance first last < 64 → steps ≡ distance first last + 1 → IsAsked first there steps ids
    → (q : ℕ) → q < 2 ^ 32 → has q ids ≡ (in_range first last q && there q)
all_asked first last steps there ids few all asked q low =
    let half : nat_lt (distance first last) (2 ^ 31) ≡ true = lt-ltb (distance first last) (2 ^ 31) (omega (arith, few)) in
    asked.exact q low ∙ ap (λ b. b && there q) (ap (nat_lt (distance first q)) all ∙ up_to (distance first q) (distance first last) ∙ ap (λ b. b && nat_le (distance first q) (distance first last)) (sym half))
  where
    up_to : (d most : ℕ) → nat_lt d (most + 1) ≡ nat_le d most
    up_to d most = same_truth (nat_lt d (most + 1)) (nat_le d most)
        (λ h. let l : d < most + 1 = ltb-true d (most + 1) h in le-leb d most (omega (arith, l)))
        (λ h. let l : d ≤ most = leb-true d most h in lt-ltb d (most + 1) (omega (arith, l)))

-- The numbers that a range may have, where it doesn't go past the highest id, ...
inside : (first last q : ℕ) → first ≤ last → last < 2 ^ 32 → q < 2 ^ 32 → distance first q ≤ distance first last → (first ≤ q) × (q ≤ last)
inside first last q o s i h = (grind arith, grind arith)

within_from : (low high x : ℕ) → low ≤ x → x ≤ high → range_contains nat_cmp (Included low) (Included high) x ≡ true
within_from low high x l h = grind arith

near_enough : (first last q : ℕ) → in_range first last q ≡ true → distance first q ≤ distance first last
near_enough first last q is = leb-true (distance first q) (distance first last) (second (nat_lt (distance first last) (2 ^ 31)) (nat_le (distance first q) (distance first last)) is)
  where
    second : (a b : Bool) → (a && b) ≡ true → b ≡ true
    second true b h = h
    second false b h = absurd cc

found : {V : Type 0} (x y : Option V) → (is_some x || (true && is_some y)) ≡ is_some (or_else x y)
found None y = refl
found (Some v) y = refl

pub straight_listed : {V : Type 0} (first last q : ℕ) (ids : NumberMap V) (before now : List ℕ) → before ≡ [] → first ≤ last → last < 2 ^ 32 → q < 2 ^ 32 → in_range first last q ≡ true
    → has q now ≡ (has q before || is_listed ids first last q) → has q now ≡ is_some (at_number ids q)
straight_listed first last q ids before now none order small low is listed =
    let at = inside first last q order small low (near_enough first last q is) in
    listed ∙ ap (λ xs. has q xs || is_listed ids first last q) none
    ∙ ap (λ b. is_some (in_places ids.placed q) || (b && is_some (get nat_cmp ids.others q))) (within_from first last q at.0 at.1)
    ∙ found (in_places ids.placed q) (get nat_cmp ids.others q)

-- ... and where it does
up_to_last : (first last q : ℕ) → last < first → first < 2 ^ 32 → q < first → distance first q ≤ distance first last → q ≤ last
up_to_last first last q o s i h = grind arith

either_part : (p a b o : Bool) → (a ≡ true) ⊎ (b ≡ true) → ((p || (a && o)) || (p || (b && o))) ≡ (p || (true && o))
either_part true a b o h = refl
either_part false true b true h = refl
either_part false true true false h = refl
either_part false true false false h = refl
either_part false false true o h = refl
either_part false false false o (inl h) = absurd cc
either_part false false false o (inr h) = absurd cc

pub wrapped_listed : {V : Type 0} (first last q : ℕ) (ids : NumberMap V) (before between now : List ℕ) → before ≡ [] → last < first → first < 2 ^ 32 → q < 2 ^ 32 → in_range first last q ≡ true
    → has q between ≡ (has q before || is_listed ids first 4294967295 q) → has q now ≡ (has q between || is_listed ids 0 last q) → has q now ≡ is_some (at_number ids q)
wrapped_listed first last q ids before between now none wraps small low is one two =
    two ∙ ap (λ b. b || is_listed ids 0 last q) (one ∙ ap (λ xs. has q xs || is_listed ids first 4294967295 q) none)
    ∙ either_part (is_some (in_places ids.placed q)) (range_contains nat_cmp (Included first) (Included 4294967295) q) (range_contains nat_cmp (Included 0) (Included last) q) (is_some (get nat_cmp ids.others q)) part
    ∙ found (in_places ids.placed q) (get nat_cmp ids.others q)
  where
    part : (range_contains nat_cmp (Included first) (Included 4294967295) q ≡ true) ⊎ (range_contains nat_cmp (Included 0) (Included last) q ≡ true)
    part = by_test (nat_lt q first)
        (λ e. inr (within_from 0 last q (omega arith) (up_to_last first last q wraps small (ltb-true q first e) (near_enough first last q is))))
        (λ e. inl (within_from first 4294967295 q (ltb-false q first e) (omega (arith, low))))

-- what is the same within a range
pub same_within : (within there here : Bool) → (within ≡ true → there ≡ here) → (within && there) ≡ (within && here)
same_within true there here same = same refl
same_within false there here same = refl
