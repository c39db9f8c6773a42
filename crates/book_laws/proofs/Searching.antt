-- Searches of lists, by a test and by a number.
use Rattle.std.proofs.Common.{◌≡◌, ◌∙◌, sym, ap, refl, subst, ℕ, ◌+◌, ◌≤◌, ◌<◌, Bool, true, false, cond, ◌&&◌, ◌||◌, List, [], ◌∷◌, ◌++◌, map, arith, Option, Some, None}
use Rattle.std.specs.Prelude.{◌==◌, find, filter, filter_map, option_map, count_by}
use Rattle.std.specs.List.{list_any}
use Rattle.std.proofs.lemmas.Bool.{eqb-true}
use Rattle.std.proofs.lemmas.Bool.Decides.{nat_tests}
use Rattle.std.proofs.lemmas.List.Elements.{filter-append}
use Rattle.std.proofs.lemmas.List.Sums.{sum_by-cons, sum_by_push}

pub by_case : {P : Type 0} (b : Bool) → ((b ≡ true) → P) → ((b ≡ false) → P) → P
by_case true f g = f refl
by_case false f g = g refl

pub one_way : false ≡ true → ⊥
one_way e = cc

pub none_not_some : {V : Type 0} {v : V} → None ≡ Some v → ⊥
none_not_some e = cc

pub some_same : {V : Type 0} {v w : V} → Some v ≡ Some w → v ≡ w
some_same e = cc

pub same_numbers : (a n : ℕ) → a ≡ n → (a == n) ≡ true
same_numbers a n e = grind (arith, nat_tests)

pub other_numbers : (a n : ℕ) → a < n → (a == n) ≡ false
other_numbers a n l = grind (arith, nat_tests)

pub turned : (a b : ℕ) → (a == b) ≡ (b == a)
turned a b = grind (arith, nat_tests)

-- a look-up that is shut gives none
pub closed : {V : Type 0} (b : Bool) (o : Option V) → b ≡ false → cond b o None ≡ None
closed true o e = absurd cc
closed false o e = refl

pub either_none : {V : Type 0} (b : Bool) (o : Option V) → o ≡ None → cond b o None ≡ None
either_none true o e = e
either_none false o e = refl

-- by a test
module _ {V : Type 0} (test : V → Bool) where
  pub count_more : (v : V) (vs : List V) → count_by test (v ∷ vs) ≡ cond (test v) 1 0 + count_by test vs
  count_more v vs = sum_by-cons (λ (x : V). cond (test x) 1 0) v vs

  pub count_push : (vs : List V) (v : V) → count_by test (vs ++ v ∷ []) ≡ count_by test vs + cond (test v) 1 0
  count_push vs v = sum_by_push (λ (x : V). cond (test x) 1 0) vs v

  pub nothing_found : (vs : List V) → count_by test vs ≡ 0 → find test vs ≡ None
  nothing_found [] none = refl
  nothing_found (v ∷ vs) none = by (test v) (sym (count_more v vs) ∙ none) (nothing_found vs)
    where
      by : (b : Bool) → cond b 1 0 + count_by test vs ≡ 0 → (count_by test vs ≡ 0 → find test vs ≡ None)
          → cond b (Some v) (find test vs) ≡ None
      by true none rest = absurd (omega (arith, none))
      by false none rest = rest (omega (arith, none))

  pub nothing_counted : (vs : List V) → find test vs ≡ None → count_by test vs ≡ 0
  nothing_counted [] none = refl
  nothing_counted (v ∷ vs) none = count_more v vs ∙ by (test v) none (nothing_counted vs)
    where
      by : (b : Bool) → cond b (Some v) (find test vs) ≡ None → (find test vs ≡ None → count_by test vs ≡ 0)
          → cond b 1 0 + count_by test vs ≡ 0
      by true none rest = absurd cc
      by false none rest = omega (arith, rest none)

  pub none_passes : (vs : List V) → count_by test vs ≡ 0 → list_any test vs ≡ false
  none_passes [] none = refl
  none_passes (v ∷ vs) none = by (test v) (sym (count_more v vs) ∙ none) (none_passes vs)
    where
      by : (b : Bool) → cond b 1 0 + count_by test vs ≡ 0 → (count_by test vs ≡ 0 → list_any test vs ≡ false)
          → (b || list_any test vs) ≡ false
      by true none rest = absurd (omega (arith, none))
      by false none rest = rest (omega (arith, none))

  pub none_counted : (vs : List V) → list_any test vs ≡ false → count_by test vs ≡ 0
  none_counted [] none = refl
  none_counted (v ∷ vs) none = count_more v vs ∙ by (test v) none (none_counted vs)
    where
      by : (b : Bool) → (b || list_any test vs) ≡ false → (list_any test vs ≡ false → count_by test vs ≡ 0)
          → cond b 1 0 + count_by test vs ≡ 0
      by true none rest = absurd cc
      by false none rest = omega (arith, rest none)

  -- what is found passes the test
  pub found_passes : (vs : List V) (v : V) → find test vs ≡ Some v → test v ≡ true
  found_passes [] v is = absurd cc
  found_passes (w ∷ vs) v is = by_case (test w)
      (λ e. ap test (sym (some_same (here e))) ∙ e)
      (λ e. found_passes vs v (rest e))
    where
      here : test w ≡ true → Some w ≡ Some v
      here e = rw e at is

      rest : test w ≡ false → find test vs ≡ Some v
      rest e = rw e at is

-- a search among those that pass another test, where what is searched for passes it
module _ {V : Type 0} (test keep : V → Bool) where
  pub found_kept : ((v : V) → test v ≡ true → keep v ≡ true) → (vs : List V) → find test (filter keep vs) ≡ find test vs
  found_kept passes [] = refl
  found_kept passes (v ∷ vs) = by (keep v) refl (found_kept passes vs)
    where
      by : (b : Bool) → keep v ≡ b → find test (filter keep vs) ≡ find test vs
          → find test (cond b (v ∷ filter keep vs) (filter keep vs)) ≡ cond (test v) (Some v) (find test vs)
      by true is rest = ap (cond (test v) (Some v)) rest
      by false is rest = by_case (test v) (λ e. absurd (one_way (sym is ∙ passes v e))) (λ e. rest ∙ rw e refl)

-- a search of a mapped list
module _ {V W : Type 0} (test : W → Bool) (f : V → W) where
  pub found_mapped : (vs : List V) → find test (map f vs) ≡ option_map f (find (λ v. test (f v)) vs)
  found_mapped [] = refl
  found_mapped (v ∷ vs) = by (test (f v)) (found_mapped vs)
    where
      by : (b : Bool) → find test (map f vs) ≡ option_map f (find (λ v. test (f v)) vs)
          → cond b (Some (f v)) (find test (map f vs)) ≡ option_map f (cond b (Some v) (find (λ v. test (f v)) vs))
      by true rest = refl
      by false rest = rest

-- by a number
module _ {V : Type 0} (number : V → ℕ) where
  pub found_number : (n : ℕ) (vs : List V) (v : V) → find (λ v. number v == n) vs ≡ Some v → number v ≡ n
  found_number n vs v is = eqb-true (number v) n (found_passes (λ v. number v == n) vs v is)

  -- among those whose number passes a test
  pub found_among : (g : ℕ → Bool) (n : ℕ) (vs : List V)
      → find (λ v. number v == n) (filter (λ v. g (number v)) vs) ≡ cond (g n) (find (λ v. number v == n) vs) None
  found_among g n [] = sym (either_none (g n) None refl)
  found_among g n (v ∷ vs) = by (g (number v)) refl (found_among g n vs)
    where
      same : (number v == n) ≡ true → g n ≡ g (number v)
      same e = ap g (sym (eqb-true (number v) n e))

      by : (b : Bool) → g (number v) ≡ b → find (λ v. number v == n) (filter (λ v. g (number v)) vs)
          ≡ cond (g n) (find (λ v. number v == n) vs) None
          → find (λ v. number v == n) (cond b (v ∷ filter (λ v. g (number v)) vs) (filter (λ v. g (number v)) vs))
          ≡ cond (g n) (cond (number v == n) (Some v) (find (λ v. number v == n) vs)) None
      by true is rest = by_case (number v == n) (λ e. rw (e, same e, is) refl) (λ e. rw e rest)
      by false is rest = by_case (number v == n)
          (λ e. rest ∙ closed (g n) (find (λ v. number v == n) vs) (same e ∙ is)
          ∙ sym (closed (g n) (cond (number v == n) (Some v) (find (λ v. number v == n) vs)) (same e ∙ is)))
          (λ e. rw e rest)

-- counts

module _ {V : Type 0} (test more : V → Bool) where
  pub count_implied : ((v : V) → test v ≡ true → more v ≡ true) → (vs : List V) → count_by test vs ≤ count_by more vs
  count_implied passes [] = omega arith
  count_implied passes (v ∷ vs) = omega
      (arith, count_more test v vs, count_more more v vs, by (test v) (more v) (passes v), count_implied passes vs)
    where
      by : (b c : Bool) → (b ≡ true → c ≡ true) → cond b 1 0 ≤ cond c 1 0
      by true true e = omega arith
      by true false e = absurd (one_way (e refl))
      by false true e = omega arith
      by false false e = omega arith

module _ {V : Type 0} (test keep : V → Bool) where
  pub count_kept : (vs : List V) → count_by test (filter keep vs) ≡ count_by (λ v. keep v && test v) vs
  count_kept [] = refl
  count_kept (v ∷ vs) = by (keep v) (count_kept vs) ∙ sym (count_more (λ v. keep v && test v) v vs)
    where
      by : (b : Bool) → count_by test (filter keep vs) ≡ count_by (λ v. keep v && test v) vs
          → count_by test (cond b (v ∷ filter keep vs) (filter keep vs))
          ≡ cond (b && test v) 1 0 + count_by (λ v. keep v && test v) vs
      by true rest = count_more test v (filter keep vs) ∙ ap (λ (n : ℕ). cond (test v) 1 0 + n) rest
      by false rest = omega (arith, rest)

module _ {V W : Type 0} (test : W → Bool) (f : V → W) where
  pub count_mapped : (vs : List V) → count_by test (map f vs) ≡ count_by (λ v. test (f v)) vs
  count_mapped [] = refl
  count_mapped (v ∷ vs) = count_more test (f v) (map f vs) ∙ ap (λ (n : ℕ). cond (test (f v)) 1 0 + n) (count_mapped vs)
      ∙ sym (count_more (λ v. test (f v)) v vs)

-- at most one passes: one more may, if none did
pub one_more : {V : Type 0} (test : V → Bool) (vs : List V) (v : V) → count_by test vs ≤ 1
    → (test v ≡ true → count_by test vs ≡ 0) → count_by test (vs ++ v ∷ []) ≤ 1
one_more test vs v few none = by (test v) none (count_push test vs v)
  where
    by : (b : Bool) → (b ≡ true → count_by test vs ≡ 0) → count_by test (vs ++ v ∷ []) ≡ count_by test vs + cond b 1 0
        → count_by test (vs ++ v ∷ []) ≤ 1
    by true none sum = omega (arith, none refl, sum)
    by false none sum = omega (arith, few, sum)

-- lists that are filtered and mapped

pub filter_push : {V : Type 0} (keep : V → Bool) (vs : List V) (v : V) → keep v ≡ true
    → filter keep (vs ++ v ∷ []) ≡ filter keep vs ++ v ∷ []
filter_push keep vs v e = filter-append keep vs (v ∷ []) ∙ ap (λ (b : Bool). filter keep vs ++ cond b (v ∷ []) []) e

module _ {V : Type 0} (first second both : V → Bool) where
  pub filter_twice : ((v : V) → (first v && second v) ≡ both v) → (vs : List V)
      → filter second (filter first vs) ≡ filter both vs
  filter_twice same [] = refl
  filter_twice same (v ∷ vs) = by (first v) (same v) (filter_twice same vs)
    where
      by : (b : Bool) → (b && second v) ≡ both v → filter second (filter first vs) ≡ filter both vs
          → filter second (cond b (v ∷ filter first vs) (filter first vs))
          ≡ cond (both v) (v ∷ filter both vs) (filter both vs)
      by true e rest = rw (e, rest) refl
      by false e rest = rw (← e) rest

-- a change of those that are kept is another map of others that are kept
module _ {V W : Type 0} (change : W → Option W) (f g : V → W) (keep left : V → Bool) where
  pub changed_rows : ((v : V) → cond (keep v) (change (f v)) None ≡ cond (left v) (Some (g v)) None) → (vs : List V)
      → filter_map change (map f (filter keep vs)) ≡ map g (filter left vs)
  changed_rows same [] = refl
  changed_rows same (v ∷ vs) = by (keep v) (left v) (same v) (changed_rows same vs)
    where
      by : (b c : Bool) → cond b (change (f v)) None ≡ cond c (Some (g v)) None
          → filter_map change (map f (filter keep vs)) ≡ map g (filter left vs)
          → filter_map change (map f (cond b (v ∷ filter keep vs) (filter keep vs)))
          ≡ map g (cond c (v ∷ filter left vs) (filter left vs))
      by true true e rest = rw (e, rest) refl
      by true false e rest = rw (e, rest) refl
      by false true e rest = absurd cc
      by false false e rest = rest

-- a search among those that are kept is one search for both
module _ {V : Type 0} (test keep : V → Bool) where
  pub found_both : (vs : List V) → find test (filter keep vs) ≡ find (λ v. keep v && test v) vs
  found_both [] = refl
  found_both (v ∷ vs) = by (keep v) (found_both vs)
    where
      by : (b : Bool) → find test (filter keep vs) ≡ find (λ v. keep v && test v) vs
          → find test (cond b (v ∷ filter keep vs) (filter keep vs))
          ≡ cond (b && test v) (Some v) (find (λ v. keep v && test v) vs)
      by true rest = ap (cond (test v) (Some v)) rest
      by false rest = rest

-- one whose number comes once is found by its number, whatever found it
module _ {V : Type 0} (number : V → ℕ) (test : V → Bool) where
  counted_pass : (vs : List V) (v : V) → find test vs ≡ Some v → 1 ≤ count_by (λ w. number w == number v) vs
  counted_pass [] v is = absurd (none_not_some is)
  counted_pass (w ∷ vs) v is = by_case (test w)
      (λ e. omega (
        arith,
        count_more (λ x. number x == number v) w vs,
        one (number w == number v)
            (same_numbers (number w) (number v) (ap number (some_same (here e)))),
      ))
      (λ e. omega (arith, count_more (λ x. number x == number v) w vs, counted_pass vs v (rest e)))
    where
      one : (b : Bool) → b ≡ true → 1 ≤ cond b 1 0
      one true e = omega arith
      one false e = absurd cc

      here : test w ≡ true → Some w ≡ Some v
      here e = rw e at is

      rest : test w ≡ false → find test vs ≡ Some v
      rest e = rw e at is

  pub found_alone : (vs : List V) (v : V) → find test vs ≡ Some v → count_by (λ w. number w == number v) vs ≤ 1
      → find (λ w. number w == number v) vs ≡ Some v
  found_alone [] v is once = absurd (none_not_some is)
  found_alone (w ∷ vs) v is once = by_case (test w)
      (λ e. let same : w ≡ v = some_same (here e) in
      rw (same_numbers (number w) (number v) (ap number same)) (ap Some same))
      (λ e. let among : find test vs ≡ Some v = rest e in
      let few : cond (number w == number v) 1 0 + count_by (λ x. number x == number v) vs ≤ 1 =
      subst (λ (n : ℕ). n ≤ 1) (count_more (λ x. number x == number v) w vs) once in
      rw (other (number w == number v) few (counted_pass vs v among))
      (found_alone vs v among (less (number w == number v) few)))
    where
      here : test w ≡ true → Some w ≡ Some v
      here e = rw e at is

      rest : test w ≡ false → find test vs ≡ Some v
      rest e = rw e at is

      other : (b : Bool) → cond b 1 0 + count_by (λ x. number x == number v) vs ≤ 1
          → 1 ≤ count_by (λ x. number x == number v) vs → b ≡ false
      other true few some = absurd (omega (arith, few, some))
      other false few some = refl

      less : (b : Bool) → cond b 1 0 + count_by (λ x. number x == number v) vs ≤ 1
          → count_by (λ x. number x == number v) vs ≤ 1
      less true few = omega (arith, few)
      less false few = omega (arith, few)

-- what one search finds shows that another isn't without it
module _ {V : Type 0} (test other : V → Bool) where
  pub found_any : (vs : List V) (v : V) → find test vs ≡ Some v → other v ≡ true → list_any other vs ≡ true
  found_any [] v is passes = absurd (none_not_some is)
  found_any (w ∷ vs) v is passes = by_case (test w)
      (λ e. ap (λ (b : Bool). b || list_any other vs) (ap other (some_same (here e)) ∙ passes))
      (λ e. either (other w) (list_any other vs) (found_any vs v (rest e) passes))
    where
      either : (b c : Bool) → c ≡ true → (b || c) ≡ true
      either true c e = refl
      either false c e = e

      here : test w ≡ true → Some w ≡ Some v
      here e = rw e at is

      rest : test w ≡ false → find test vs ≡ Some v
      rest e = rw e at is
