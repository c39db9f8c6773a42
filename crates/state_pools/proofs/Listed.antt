-- A list of the numbers that have something gives what each has.
use Rattle.std.proofs.Common.{◌≡◌, ◌∙◌, sym, ap, refl, subst, inl, inr, ⊎_elim, ℕ, zero, suc, Bool, true, false, cond, ◌&&◌, ◌<◌, ◌≤◌, Option, Some, None, List, [], ◌∷◌, ◌++◌, arith}
use Rattle.std.specs.Prelude.{◌==◌, nat_lt, nat_le}
use Rattle.std.specs.List.{AllByRecursion}
use Rattle.std.specs.List.Sorted.{IsStrictlySortedBy}
use Rattle.std.specs.Map.{keys_of}
use Rattle.std.specs.BTreeMap.{is_at}
use Rattle.std.specs.Ordering.{nat_cmp}
use Rattle.std.proofs.lemmas.Bool.{eqb-true, le-leb, lt-leb, lt-ltb}
use Rattle.route_credit.specs.Links.{link_at}
use Rattle.route_credit.specs.Granting.{choice, grants_of}
use Rattle.route_credit.specs.Pool.{copies, Sharing}
use Rattle.route_credit.proofs.Entries.{Above, InOrder, less_is, same_entries}
use Rattle.route_credit.proofs.Gains.{grants_but_last}
use Rattle.route_credit.proofs.Indices.{same_test}
use Rattle.route_table.specs.declared.sections.Distribution.{Distribution}
use Rattle.state_pools.specs.Fits.{AllAbove, Fits}
use Rattle.state_pools.specs.Laws.{IsOrForgot}
use Rattle.state_pools.specs.Sharing.{AreNumbered, demand_at, entry, Figure, listed, offer_at, sharing}
use Rattle.state_pools.proofs.AtAddress.{by_test}
use Rattle.state_pools.proofs.Noted.{none_noted}

abbrev Below : ℕ → List ℕ → Type 0
Below n ids = AllByRecursion (λ id. id < n) ids

below_more : (n m : ℕ) (ids : List ℕ) → n ≤ m → Below n ids → Below m ids
below_more n m [] l all = tt
below_more n m (i ∷ is) l all = (let k : i < n = all.0 in omega (arith, l, k), below_more n m is l all.1)

module _ {X : Type 0} where
  or_else : Option X → Option X → Option X
  or_else None y = y
  or_else (Some x) y = Some x

  found_end : (xs ys : List (ℕ × X)) (q : ℕ) → link_at (xs ++ ys) q ≡ or_else (link_at xs q) (link_at ys q)
  unfolding or_else
  found_end [] ys q = refl
  found_end (x ∷ xs) ys q = by_head (is_at (nat_cmp q) x.0) (found_end xs ys q)
    where
      by_head : (b : Bool) → link_at (xs ++ ys) q ≡ or_else (link_at xs q) (link_at ys q) → cond b (Some x.1) (link_at (xs ++ ys) q) ≡ or_else (cond b (Some x.1) (link_at xs q)) (link_at ys q)
      by_head true rest = refl
      by_head false rest = rest

  entry_at : (k : ℕ) (x : Option X) (q : ℕ) → link_at (entry k x) q ≡ cond (q == k) x None
  entry_at k None q = by_test (q == k) (λ e. rw e refl) (λ e. rw e refl)
  entry_at k (Some x) q = ap (λ b. cond b (Some x) None) (same_test q k)

  or_none : (x : Option X) → or_else x None ≡ x
  unfolding or_else
  or_none None = refl
  or_none (Some x) = refl

  listed_in : (f : ℕ → Option X) (n q : ℕ) → link_at (listed f n) q ≡ cond (nat_lt 0 q && nat_le q n) (f q) None
  unfolding or_else
  listed_in f zero q = ap (λ b. cond b (f q) None) (none q)
    where
      none : (q : ℕ) → false ≡ (nat_lt 0 q && nat_le q 0)
      none zero = refl
      none (suc q) = rw (lt-ltb 0 (suc q) (omega arith), lt-leb (suc q) 0 (omega arith)) refl
  listed_in f (suc n) q =
      found_end (listed f n) (entry (suc n) (f (suc n))) q
      ∙ ap (λ x. or_else x (link_at (entry (suc n) (f (suc n))) q)) (listed_in f n q)
      ∙ ap (or_else (cond (nat_lt 0 q && nat_le q n) (f q) None)) (entry_at (suc n) (f (suc n)) q)
      ∙ by_test (q == suc n) here elsewhere
    where
      here : (q == suc n) ≡ true → or_else (cond (nat_lt 0 q && nat_le q n) (f q) None) (cond (q == suc n) (f (suc n)) None) ≡ cond (nat_lt 0 q && nat_le q (suc n)) (f q) None
      here e =
          let same : q ≡ suc n = eqb-true q (suc n) e in
          let one : nat_lt 0 q ≡ true = lt-ltb 0 q (omega (arith, same)) in
          let two : nat_le q n ≡ false = lt-leb q n (omega (arith, same)) in
          let three : nat_le q (suc n) ≡ true = le-leb q (suc n) (omega (arith, same)) in
          rw (one, two, three, e) (ap f (sym same))

      alike : (q == suc n) ≡ false → nat_le q n ≡ nat_le q (suc n)
      alike e = grind (arith, e)

      elsewhere : (q == suc n) ≡ false → or_else (cond (nat_lt 0 q && nat_le q n) (f q) None) (cond (q == suc n) (f (suc n)) None) ≡ cond (nat_lt 0 q && nat_le q (suc n)) (f q) None
      elsewhere e = ap (λ b. or_else (cond (nat_lt 0 q && nat_le q n) (f q) None) (cond b (f (suc n)) None)) e ∙ or_none (cond (nat_lt 0 q && nat_le q n) (f q) None) ∙ ap (λ b. cond (nat_lt 0 q && b) (f q) None) (alike e)

  -- the list gives what each number has
  pub listed_at : (f : ℕ → Option X) (n : ℕ) → f 0 ≡ None → ((m : ℕ) → n < m → f m ≡ None) → (q : ℕ) → link_at (listed f n) q ≡ f q
  listed_at f n first most q = listed_in f n q ∙ by_zero q
    where
      by_zero : (q : ℕ) → cond (nat_lt 0 q && nat_le q n) (f q) None ≡ f q
      by_zero zero = sym first
      by_zero (suc q) =
          let one : nat_lt 0 (suc q) ≡ true = lt-ltb 0 (suc q) (omega arith) in
          by_test (nat_le (suc q) n)
          (λ e. rw (one, e) refl)
          (λ e. rw (one, e) (sym (most (suc q) (let f : n < suc q = grind (arith, e) in f))))

  below_end : (n k : ℕ) (x : Option X) (es : List (ℕ × X)) → k < n → Below n (keys_of es) → Below n (keys_of (es ++ entry k x))
  below_end n k None [] l all = tt
  below_end n k (Some x) [] l all = (l, tt)
  below_end n k x (e ∷ es) l all = (all.0, below_end n k x es l all.1)

  above_end : (i k : ℕ) (x : Option X) (es : List (ℕ × X)) → i < k → Above i (keys_of es) → Above i (keys_of (es ++ entry k x))
  above_end i k None [] l all = tt
  above_end i k (Some x) [] l all = (less_is i k l, tt)
  above_end i k x (e ∷ es) l all = (all.0, above_end i k x es l all.1)

  ordered_end : (k : ℕ) (x : Option X) (es : List (ℕ × X)) → Below k (keys_of es) → InOrder es → InOrder (es ++ entry k x)
  unfolding IsStrictlySortedBy
  ordered_end k None [] all ordered = tt
  ordered_end k (Some x) [] all ordered = (tt, tt)
  ordered_end k x (e ∷ es) all ordered = (above_end e.0 k x es all.0 ordered.0, ordered_end k x es all.1 ordered.1)

  listed_below : (f : ℕ → Option X) (n : ℕ) → Below (suc n) (keys_of (listed f n))
  listed_below f zero = tt
  listed_below f (suc n) = below_end (suc (suc n)) (suc n) (f (suc n)) (listed f n) (omega arith) (below_more (suc n) (suc (suc n)) (keys_of (listed f n)) (omega arith) (listed_below f n))

  pub listed_ordered : (f : ℕ → Option X) (n : ℕ) → InOrder (listed f n)
  unfolding IsStrictlySortedBy
  listed_ordered f zero = tt
  listed_ordered f (suc n) = ordered_end (suc n) (f (suc n)) (listed f n) (listed_below f n) (listed_ordered f n)

module _ (apart : ℕ → Bool) (table share : List ℕ → Distribution) (pools : List ℕ → Sharing) (place : ℕ → Option (List ℕ)) (due : List ℕ → Bool) (known actual : ℕ → Option Figure) (last : List ℕ → ℕ) (count : ℕ) (address : List ℕ)
    (fits : Fits apart table share pools place due known actual last) (none : (n : ℕ) → apart n ≡ false) (numbered : AreNumbered known count) where
  abbrev shared : Sharing
  shared = sharing (share address) known count (last address) address

  consumers : (pools address).consumers ≡ shared.consumers
  consumers = same_entries (pools address).consumers (listed (λ n. offer_at address (known n)) count) (fits.consumers_rise address) (listed_ordered (λ n. offer_at address (known n)) count)
      (λ q. fits.consumers q address (none q) ∙ sym (listed_at (λ n. offer_at address (known n)) count (ap (offer_at address) numbered.first) (λ m l. ap (offer_at address) (numbered.most m l)) q))

  producers : (pools address).producers ≡ shared.producers
  producers = same_entries (pools address).producers (listed (λ n. demand_at address (known n)) count) (fits.producers_rise address) (listed_ordered (λ n. demand_at address (known n)) count)
      (λ q. fits.producers q address (none q) ∙ sym (listed_at (λ n. demand_at address (known n)) count (ap (demand_at address) numbered.first) (λ m l. ap (demand_at address) (numbered.most m l)) q))

  -- if nothing is apart, the pool of an address is the one computed from what each link has, but for the consumer that it notes
  but_last : pools address ≡ record shared { last = (pools address).last }
  but_last = λ i. record { distribution = fits.distribution address i; consumers = consumers i; producers = producers i; last = (pools address).last }

  -- it notes the one chosen last, or none where each of its consumers attached after that
  pub pool_is : IsOrForgot (pools address) shared
  pool_is = ⊎_elim
      (λ e. inl (but_last ∙ ap (λ l. record shared { last = l }) e))
      (λ e. inr (but_last ∙ ap (λ l. record shared { last = l }) e.0, subst (λ es. AllAbove (last address) es) consumers e.1))
      (fits.chosen address)

  -- so its choice is
  pub choice_is : choice (pools address) ≡ choice shared
  choice_is = ⊎_elim (λ e. ap choice e) (λ e. ap choice e.0 ∙ none_noted shared (last address) e.1) pool_is

  -- and its copies are
  pub copies_are : copies (pools address) ≡ copies shared
  copies_are = ap copies but_last

  -- and its grants are
  pub grants_are : grants_of (pools address) ≡ grants_of shared
  grants_are = ap grants_of but_last ∙ grants_but_last shared (pools address).last
