-- What the places of a table show, through look-ups and changes.
use Rattle.std.proofs.Common.{◌≡◌, ℕ, ◌<◌, ◌≤◌, ◌+◌, suc, zero, Bool, true, false, cond, not, List, [], ◌∷◌, ◌++◌, length, get_or, set, Option, Some, None, refl, arith, ap, ◌∙◌, sym, subst}
use Rattle.std.specs.Prelude.{find, filter, filter_map, is_some, ◌==◌}
use Rattle.std.specs.List.{cons_option}
use Rattle.std.specs.Option.{ForSome}
use Rattle.book_core.specs.Rising.{Rises, AllAbove, AllBelow, Lacks, IsAt}
use Rattle.std.proofs.lemmas.Bool.Decides.{nat_tests}

by_test : {P : Type 0} (b : Bool) → ((b ≡ true) → P) → ((b ≡ false) → P) → P
by_test true f g = f refl
by_test false f g = g refl

pub same_number : (a n : ℕ) → a ≡ n → (a == n) ≡ true
same_number a n e = grind (arith, nat_tests)

other_number : (a n : ℕ) → (a ≡ n → ⊥) → (a == n) ≡ false
other_number a n e = grind (arith, nat_tests)

-- the values, the one named n changed
changed : {V : Type 0} → (V → ℕ) → ℕ → (V → Option V) → List V → List V
changed name n change = filter_map (λ v. cond (name v == n) (change v) (Some v))

module _ {V : Type 0} (name : V → ℕ) where
  -- where none has the name, nothing changes
  pub changed_none : (n : ℕ) (change : V → Option V) (vs : List V) → find (λ v. name v == n) vs ≡ None → filter_map (λ v. cond (name v == n) (change v) (Some v)) vs ≡ vs
  changed_none n change [] e = refl
  changed_none n change (v ∷ vs) e =
      by_test (name v == n)
      (λ t. absurd (let none : cond (name v == n) (Some v) (find (λ v. name v == n) vs) ≡ None = e in let none' : Some v ≡ None = rw t at none in cc))
      (λ t. let rest : find (λ v. name v == n) vs ≡ None = (let none : cond (name v == n) (Some v) (find (λ v. name v == n) vs) ≡ None = e in rw t at none) in
      rw t (ap (λ ws. v ∷ ws) (changed_none n change vs rest)))

module _ {S V : Type 0} (number : S → ℕ) (value : S → Option V) (name : V → ℕ) (same : (s : S) → ForSome (value s) (λ v. name v ≡ number s)) where
  -- a place of another number shows nothing of the name
  other_place : (n : ℕ) (s : S) (vs : List V) → (number s ≡ n → ⊥) → find (λ v. name v == n) (cons_option (value s) vs) ≡ find (λ v. name v == n) vs
  other_place n s vs ne = by_value (value s) refl
    where
      by_value : (o : Option V) → value s ≡ o → find (λ v. name v == n) (cons_option o vs) ≡ find (λ v. name v == n) vs
      by_value None e = refl
      by_value (Some v) e = rw (other_number (name v) n (λ h. ne (sym (same s v e) ∙ h))) refl

  pub find_lacking : (n : ℕ) (xs : List S) → Lacks number n xs → find (λ v. name v == n) (filter_map value xs) ≡ None
  find_lacking n [] h = refl
  find_lacking n (x ∷ xs) h = other_place n x (filter_map value xs) h.0 ∙ find_lacking n xs h.1

  above_lacks : (m n : ℕ) (xs : List S) → n ≤ m → AllAbove number m xs → Lacks number n xs
  above_lacks m n [] le h = tt
  above_lacks m n (x ∷ xs) le h = ((λ e. let above : m < number x = h.0 in omega arith), above_lacks m n xs le h.1)

  pub find_at : (n : ℕ) (xs : List S) (at : ℕ) (d : S) → Rises number xs → IsAt number n xs at → find (λ v. name v == n) (filter_map value xs) ≡ value (get_or xs at d)
  find_at n [] at d up h = absurd (let inside = h.inside in omega arith)
  find_at n (x ∷ xs) zero d up h = by_value (value x) refl
    where
      here : number x ≡ n
      here = h.is x

      behind : find (λ v. name v == n) (filter_map value xs) ≡ None
      behind = find_lacking n xs (above_lacks (number x) n xs (omega (arith, here)) up.0)

      by_value : (o : Option V) → value x ≡ o → find (λ v. name v == n) (cons_option o (filter_map value xs)) ≡ o
      by_value None e = behind
      by_value (Some v) e = rw (same_number (name v) n (same x v e ∙ here)) refl
  find_at n (x ∷ xs) (suc at) d up h =
      other_place n x (filter_map value xs) (λ e. let above = lies xs at up.0 (omega (arith, h.inside)) in omega (arith, above, h.is d))
      ∙ find_at n xs at d up.1 (record { inside = omega (arith, h.inside); is = h.is })
    where
      lies : (ys : List S) (i : ℕ) → AllAbove number (number x) ys → i < length ys → number x < number (get_or ys i d)
      lies [] i a l = absurd (omega arith)
      lies (y ∷ ys) zero a l = a.0
      lies (y ∷ ys) (suc i) a l = lies ys i a.1 (omega arith)

  above_shown : (m : ℕ) (xs : List S) → AllAbove number m xs → AllAbove name m (filter_map value xs)
  above_shown m [] h = tt
  above_shown m (x ∷ xs) h = by_value (value x) refl (above_shown m xs h.1)
    where
      by_value : (o : Option V) → value x ≡ o → AllAbove name m (filter_map value xs) → AllAbove name m (cons_option o (filter_map value xs))
      by_value None e rest = rest
      by_value (Some v) e rest = (let is : name v ≡ number x = same x v e in let above : m < number x = h.0 in omega arith, rest)

  -- what is shown is in the order of its places
  pub rises_shown : (xs : List S) → Rises number xs → Rises name (filter_map value xs)
  rises_shown [] up = tt
  rises_shown (x ∷ xs) up = by_value (value x) refl (rises_shown xs up.1)
    where
      by_value : (o : Option V) → value x ≡ o → Rises name (filter_map value xs) → Rises name (cons_option o (filter_map value xs))
      by_value None e rest = rest
      by_value (Some v) e rest = (let P : ℕ → Type 0 = λ m. AllAbove name m (filter_map value xs) in subst P (sym (same x v e)) (above_shown (number x) xs up.0), rest)

  -- a place of another number stays what it was
  pub change_at : (n : ℕ) (change : V → Option V) (xs : List S) (at : ℕ) (s : S) (old : V) → Rises number xs → IsAt number n xs at
      → ((d : S) → value (get_or xs at d) ≡ Some old) → value s ≡ change old
      → filter_map value (set xs at s) ≡ filter_map (λ v. cond (name v == n) (change v) (Some v)) (filter_map value xs)
  change_at n change [] at s old up h was now = absurd (let inside = h.inside in omega arith)
  change_at n change (x ∷ xs) zero s old up h was now =
      rw (was x, now, same_number (name old) n (same x old (was x) ∙ h.is x))
      (ap (cons_option (change old)) (sym (changed_none name n change (filter_map value xs) (find_lacking n xs (above_lacks (number x) n xs (omega (arith, h.is x)) up.0)))))
  change_at n change (x ∷ xs) (suc at) s old up h was now =
      by_value (value x) refl (change_at n change xs at s old up.1 (record { inside = omega (arith, h.inside); is = h.is }) was now)
    where
      lies : (ys : List S) (i : ℕ) (d : S) → AllAbove number (number x) ys → i < length ys → number x < number (get_or ys i d)
      lies [] i d a l = absurd (omega arith)
      lies (y ∷ ys) zero d a l = a.0
      lies (y ∷ ys) (suc i) d a l = lies ys i d a.1 (omega arith)

      other : number x ≡ n → ⊥
      other e = let above = lies xs at x up.0 (omega (arith, h.inside)) in omega (arith, above, h.is x)

      by_value : (o : Option V) → value x ≡ o → filter_map value (set xs at s) ≡ filter_map (λ v. cond (name v == n) (change v) (Some v)) (filter_map value xs) → cons_option o (filter_map value (set xs at s)) ≡ filter_map (λ v. cond (name v == n) (change v) (Some v)) (cons_option o (filter_map value xs))
      by_value None e rest = rest
      by_value (Some v) e rest = rw (other_number (name v) n (λ i. other (sym (same x v e) ∙ i))) (ap (λ vs. v ∷ vs) rest)

module _ {S V : Type 0} (value : S → Option V) where
  pub shown_more : (xs : List S) (s : S) (v : V) → value s ≡ Some v → filter_map value (xs ++ s ∷ []) ≡ filter_map value xs ++ v ∷ []
  shown_more [] s v e = rw e refl
  shown_more (x ∷ xs) s v e = by_value (value x) (shown_more xs s v e)
    where
      by_value : (o : Option V) → filter_map value (xs ++ s ∷ []) ≡ filter_map value xs ++ v ∷ [] → cons_option o (filter_map value (xs ++ s ∷ [])) ≡ cons_option o (filter_map value xs) ++ v ∷ []
      by_value None rest = rest
      by_value (Some w) rest = ap (λ vs. w ∷ vs) rest

  pub shown_kept : (xs : List S) → filter_map value (filter (λ s. is_some (value s)) xs) ≡ filter_map value xs
  shown_kept [] = refl
  shown_kept (x ∷ xs) = by_value (value x) refl (shown_kept xs)
    where
      by_value : (o : Option V) → value x ≡ o → filter_map value (filter (λ s. is_some (value s)) xs) ≡ filter_map value xs → filter_map value (cond (is_some o) (x ∷ filter (λ s. is_some (value s)) xs) (filter (λ s. is_some (value s)) xs)) ≡ cons_option o (filter_map value xs)
      by_value None e rest = rest
      by_value (Some v) e rest = rw e (ap (λ vs. v ∷ vs) rest)

-- taking out by a test
pub filter_as_change : {V : Type 0} (name : V → ℕ) (n : ℕ) (vs : List V) → filter_map (λ v. cond (name v == n) None (Some v)) vs ≡ filter (λ v. not (name v == n)) vs
filter_as_change name n [] = refl
filter_as_change name n (v ∷ vs) = by_bool (name v == n) (filter_as_change name n vs)
  where
    by_bool : (b : Bool) → filter_map (λ v. cond (name v == n) None (Some v)) vs ≡ filter (λ v. not (name v == n)) vs → cons_option (cond b None (Some v)) (filter_map (λ v. cond (name v == n) None (Some v)) vs) ≡ cond (not b) (v ∷ filter (λ v. not (name v == n)) vs) (filter (λ v. not (name v == n)) vs)
    by_bool true rest = rest
    by_bool false rest = ap (λ ws. v ∷ ws) rest

-- Numbers still rise.
module _ {S : Type 0} (number : S → ℕ) where
  pub above_more : (m : ℕ) (xs : List S) (s : S) → AllAbove number m xs → m < number s → AllAbove number m (xs ++ s ∷ [])
  above_more m [] s h l = (l, tt)
  above_more m (x ∷ xs) s h l = (h.0, above_more m xs s h.1 l)

  pub rises_more : (n : ℕ) (xs : List S) (s : S) → Rises number xs → AllBelow number n xs → number s ≡ n → Rises number (xs ++ s ∷ [])
  rises_more n [] s up low e = (tt, tt)
  rises_more n (x ∷ xs) s up low e = (above_more (number x) xs s up.0 (let below : number x < n = low.0 in omega arith), rises_more n xs s up.1 low.1 e)

  pub below_more_number : (n : ℕ) (xs : List S) (s : S) → AllBelow number n xs → number s ≡ n → AllBelow number (n + 1) (xs ++ s ∷ [])
  below_more_number n [] s low e = (omega arith, tt)
  below_more_number n (x ∷ xs) s low e = (let below : number x < n = low.0 in omega arith, below_more_number n xs s low.1 e)

  above_set : (m : ℕ) (xs : List S) (at : ℕ) (s : S) → ((d : S) → number (get_or xs at d) ≡ number s) → AllAbove number m xs → AllAbove number m (set xs at s)
  above_set m [] at s e h = tt
  above_set m (x ∷ xs) zero s e h = (let above : m < number x = h.0 in let same = e x in omega arith, h.1)
  above_set m (x ∷ xs) (suc at) s e h = (h.0, above_set m xs at s e h.1)

  pub rises_set : (xs : List S) (at : ℕ) (s : S) → ((d : S) → number (get_or xs at d) ≡ number s) → Rises number xs → Rises number (set xs at s)
  rises_set [] at s e up = tt
  rises_set (x ∷ xs) zero s e up = (let P : ℕ → Type 0 = λ n. AllAbove number n xs in subst P (e x) up.0, up.1)
  rises_set (x ∷ xs) (suc at) s e up = (above_set (number x) xs at s e up.0, rises_set xs at s e up.1)

  pub below_set : (m : ℕ) (xs : List S) (at : ℕ) (s : S) → ((d : S) → number (get_or xs at d) ≡ number s) → AllBelow number m xs → AllBelow number m (set xs at s)
  below_set m [] at s e h = tt
  below_set m (x ∷ xs) zero s e h = (let below : number x < m = h.0 in let same = e x in omega arith, h.1)
  below_set m (x ∷ xs) (suc at) s e h = (h.0, below_set m xs at s e h.1)

  pub above_filter : (m : ℕ) (p : S → Bool) (xs : List S) → AllAbove number m xs → AllAbove number m (filter p xs)
  above_filter m p [] h = tt
  above_filter m p (x ∷ xs) h = by_bool (p x) (above_filter m p xs h.1)
    where
      by_bool : (b : Bool) → AllAbove number m (filter p xs) → AllAbove number m (cond b (x ∷ filter p xs) (filter p xs))
      by_bool true rest = (h.0, rest)
      by_bool false rest = rest

  pub rises_filter : (p : S → Bool) (xs : List S) → Rises number xs → Rises number (filter p xs)
  rises_filter p [] up = tt
  rises_filter p (x ∷ xs) up = by_bool (p x) (rises_filter p xs up.1)
    where
      by_bool : (b : Bool) → Rises number (filter p xs) → Rises number (cond b (x ∷ filter p xs) (filter p xs))
      by_bool true rest = (above_filter (number x) p xs up.0, rest)
      by_bool false rest = rest

  pub below_filter : (m : ℕ) (p : S → Bool) (xs : List S) → AllBelow number m xs → AllBelow number m (filter p xs)
  below_filter m p [] h = tt
  below_filter m p (x ∷ xs) h = by_bool (p x) (below_filter m p xs h.1)
    where
      by_bool : (b : Bool) → AllBelow number m (filter p xs) → AllBelow number m (cond b (x ∷ filter p xs) (filter p xs))
      by_bool true rest = (h.0, rest)
      by_bool false rest = rest
