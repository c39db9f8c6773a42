-- What is at an address, where one value stands in place.
use Rattle.std.proofs.Common.{◌≡◌, ◌∙◌, sym, ap, refl, ℕ, true, false, true≢false, cond, ◌&&◌, not, if◌then◌else◌, option_map, Option, Some, None, is_some, List, length}
use Rattle.std.specs.Prelude.{◌==◌}
use Rattle.std.specs.Str.{bytes_eq}
use Rattle.state_pools.specs.Addresses.{at_address}
use Rattle.state_pools.specs.ByBytes.{at, first_at, has_none, or_else}
use Rattle.state_pools.specs.declared.by_bytes.ByBytes.{ByBytes}
use Rattle.state_pools.specs.declared.by_bytes.Place.{Place}
use Rattle.state_pools.proofs.AtAddress.{by_test, same_bytes, turned}
use Rattle.state_pools.proofs.Written.{none}

module _ {V : Type 0} where
  -- where there are none, nothing is at any address
  pub nothing : (values : ByBytes V) → has_none values ≡ true → (a : List ℕ) → at values a ≡ None
  nothing values empty a = by_first values.first empty
    where
      by_first : (first : Option (Place V)) → (not (is_some first) && (length values.more.entries == 0)) ≡ true → or_else (first_at first a) (at_address values.more.entries (λ k. k.items) a) ≡ None
      by_first None h = ap (λ es. at_address es (λ k. k.items) a) (none values.more.entries h)
      by_first (Some place) h = absurd cc

  no_value : (x : Option V) → is_some x ≡ false → x ≡ None
  no_value None h = refl
  no_value (Some v) h = absurd cc

  -- where the value in place is at another address
  pub after_first : (first : Option (Place V)) (q : List ℕ) (value : Option V) → is_some (first_at first q) ≡ false → value ≡ or_else (first_at first q) value
  after_first first q value not_first = sym (ap (λ x. or_else x value) (no_value (first_at first q) not_first))

  -- and one beyond it is written
  pub more_written : (first : Option (Place V)) (old new : List ℕ → Option V) (q : List ℕ) (w : V) → is_some (first_at first q) ≡ false
      → ((a : List ℕ) → new a ≡ cond (bytes_eq q a) (option_map (λ _. w) (old a)) (old a)) → (a : List ℕ)
      → or_else (first_at first a) (new a) ≡ (if bytes_eq q a then option_map (λ _. w) (or_else (first_at first a) (old a)) else or_else (first_at first a) (old a))
  more_written first old new q w not_first set a = ap (or_else (first_at first a)) (set a) ∙ by_test (bytes_eq q a)
      (λ e. let nowhere : first_at first a ≡ None = ap (first_at first) (sym (same_bytes q a e)) ∙ no_value (first_at first q) not_first in rw (e, nowhere) refl)
      (λ e. rw e refl)

  -- what is in place and what is beyond it are removed
  pub both_removed : (before first : Option (Place V)) (old new : List ℕ → Option V) (q : List ℕ) → ((a : List ℕ) → first_at first a ≡ (if bytes_eq q a then None else first_at before a))
      → new q ≡ None → ((a : List ℕ) → bytes_eq q a ≡ false → new a ≡ old a) → (a : List ℕ)
      → or_else (first_at first a) (new a) ≡ (if bytes_eq q a then None else or_else (first_at before a) (old a))
  both_removed before first old new q taken gone others a = by_test (bytes_eq q a)
      (λ e. let now : new a ≡ None = ap new (sym (same_bytes q a e)) ∙ gone in rw (taken a, e, now) refl)
      (λ e. rw (taken a, e, others a e) refl)

  nowhere_first : (x y : Option V) → or_else x y ≡ None → x ≡ None
  nowhere_first None y h = refl
  nowhere_first (Some v) y h = h

  -- a value is put beyond the one in place, once none is at its address
  pub more_put : (first : Option (Place V)) (was old new : List ℕ → Option V) (q : List ℕ) (w : V) → ((a : List ℕ) → or_else (first_at first a) (old a) ≡ (if bytes_eq q a then None else was a))
      → ((a : List ℕ) → new a ≡ cond (bytes_eq q a) (Some w) (old a)) → (a : List ℕ)
      → or_else (first_at first a) (new a) ≡ (if bytes_eq q a then Some w else was a)
  more_put first was old new q w removed set a = ap (or_else (first_at first a)) (set a) ∙ by_test (bytes_eq q a)
      (λ e. let nowhere : first_at first a ≡ None = nowhere_first (first_at first a) (old a) (removed a ∙ ap (λ b. if b then None else was a) e) in rw (e, nowhere) refl)
      (λ e. rw e (removed a ∙ ap (λ b. if b then None else was a) e))

  -- where one stands in place alone, it is at each address that has a value
  pub sole : (values : ByBytes V) → (length values.more.entries == 0) ≡ true → (q : List ℕ) → is_some (at values q) ≡ true → option_map (λ p. p.value) values.first ≡ at values q
  sole values empty q there = by_first values.first (ap (λ es. is_some (or_else (first_at values.first q) (at_address es (λ k. k.items) q))) (sym (none values.more.entries empty)) ∙ there)
      ∙ ap (λ es. or_else (first_at values.first q) (at_address es (λ k. k.items) q)) (sym (none values.more.entries empty))
    where
      by_first : (first : Option (Place V)) → is_some (or_else (first_at first q) None) ≡ true → option_map (λ p. p.value) first ≡ or_else (first_at first q) None
      by_first None h = absurd cc
      by_first (Some place) h = by_test (bytes_eq q place.address.items) (λ e. rw e refl) (λ e. absurd (true≢false (sym h ∙ ap (λ b. is_some (or_else (if b then Some place.value else None) None)) e)))

  -- and if it is written, what was written is there
  pub sole_written : (x q : List ℕ) (v w : V) (more : List ℕ → Option V) → ((a : List ℕ) → more a ≡ None) → is_some (or_else (cond (bytes_eq q x) (Some v) None) (more q)) ≡ true → (a : List ℕ)
      → or_else (cond (bytes_eq a x) (Some w) None) (more a) ≡ (if bytes_eq q a then option_map (λ _. w) (or_else (cond (bytes_eq a x) (Some v) None) (more a)) else or_else (cond (bytes_eq a x) (Some v) None) (more a))
  sole_written x q v w more none there a = by_test (bytes_eq q x)
      (λ e. let test : bytes_eq a x ≡ bytes_eq q a = turned a x ∙ ap (λ k. bytes_eq k a) (sym (same_bytes q x e)) in
      by_test (bytes_eq q a) (λ f. rw (test, f) refl) (λ f. rw (test, f) refl))
      (λ e. absurd (true≢false (sym there ∙ ap (λ b. is_some (or_else (cond b (Some v) None) (more q))) e ∙ ap is_some (none q))))
