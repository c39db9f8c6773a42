-- The pools after a change of one.
use Rattle.std.proofs.Common.{◌≡◌, ◌∙◌, sym, ap, refl, subst, ℕ, Bool, true, false, ◌&&◌, if◌then◌else◌, option_map, Result, Ok, Err, OnOk, IfOk, Option, Some, None, List, [], ◌∷◌, length, arith}
use Rattle.std.specs.Prelude.{◌==◌}
use Rattle.std.specs.Str.{bytes_eq}
use Rattle.std.proofs.lemmas.Bool.{eqb-true}
use Rattle.route_credit.specs.Pool.{copies, has_no_links, no_links, Sharing}
use Rattle.state_pools.specs.Addresses.{pool_or, rested, with_pool}
use Rattle.route_table.specs.declared.sections.Distribution.{Distribution}
use Rattle.route_table.specs.declared.sections.Distribution.TheVariants.{Balanced, Closest, Multicast}
use Rattle.state_pools.proofs.AtAddress.{by_test, equal_bytes, same_bytes}

-- a pool without links has no consumer and no producer
first : (b c : Bool) → (b && c) ≡ true → b ≡ true
first true c h = refl
first false c h = h

second : (b c : Bool) → (b && c) ≡ true → c ≡ true
second true c h = h
second false c h = absurd cc

pub none : {X : Type 0} (xs : List X) → (length xs == 0) ≡ true → xs ≡ []
none [] h = refl
none (x ∷ xs) h = absurd (omega (arith, eqb-true (length (x ∷ xs)) 0 h))

pub no_consumers : (pool : Sharing) → has_no_links pool ≡ true → pool.consumers ≡ []
no_consumers pool empty = none pool.consumers (first (length pool.consumers == 0) (length pool.producers == 0) empty)

pub no_producers : (pool : Sharing) → has_no_links pool ≡ true → pool.producers ≡ []
no_producers pool empty = none pool.producers (second (length pool.consumers == 0) (length pool.producers == 0) empty)

-- a new pool rests unchanged
pub rested_new : (d : Distribution) → rested (no_links d) ≡ no_links d
rested_new d = refl

-- and so does one with links
rested_same : (pool : Sharing) → has_no_links pool ≡ false → rested pool ≡ pool
rested_same pool some = ap (λ b. record pool { last = if b then 0 else pool.last }) some

-- one without links is a new one
rested_none : (pool : Sharing) (d : Distribution) → pool.distribution ≡ d → has_no_links pool ≡ true → no_links d ≡ rested pool
rested_none pool d shared empty = λ i. record {
  distribution = sym shared i;
  consumers = sym (no_consumers pool empty) i;
  producers = sym (no_producers pool empty) i;
  last = sym (ap (λ b. if b then 0 else pool.last) empty) i;
}

module _ (share : List ℕ → Distribution) (at : List ℕ → Option Sharing) (q : List ℕ) where
  -- the pools of what is at each address, with this distribution of addresses
  abbrev pub pools_of : (List ℕ → Option Sharing) → List ℕ → Sharing
  pools_of found a = pool_or (share a) (found a)

  pub here : (pool : Sharing) → Some pool ≡ at q → pools_of at q ≡ pool
  here pool is = ap (pool_or (share q)) (sym is)

  pub nowhere : None ≡ at q → pools_of at q ≡ no_links (share q)
  nowhere is = ap (pool_or (share q)) (sym is)

  -- what is at an address is at the same one
  same_at : (x : Option Sharing) → x ≡ at q → (a : List ℕ) → bytes_eq q a ≡ true → at a ≡ x
  same_at x is a e = ap at (sym (same_bytes q a e)) ∙ sym is

  -- one was written
  pub written : (now : List ℕ → Option Sharing) (pool new : Sharing) (change : Sharing → Sharing) → Some pool ≡ at q → ((a : List ℕ) → now a ≡ (if bytes_eq q a then option_map (λ _. new) (at a) else at a)) → new ≡ change pool
      → (a : List ℕ) → pools_of now a ≡ with_pool (pools_of at) q change a
  written now pool new change is set changed a = ap (pool_or (share a)) (set a) ∙ by_test (bytes_eq q a)
      (λ e. rw (e, same_at (Some pool) is a e) changed)
      (λ e. rw e refl)

  -- what is at its address then
  pub written_there : (now : List ℕ → Option Sharing) (pool new : Sharing) → Some pool ≡ at q → ((a : List ℕ) → now a ≡ (if bytes_eq q a then option_map (λ _. new) (at a) else at a)) → pools_of now q ≡ new
  written_there now pool new is set = written now pool new (λ old. new) is set refl q ∙ ap (λ b. if b then new else pools_of at q) (equal_bytes q q refl)

  -- none was there to be written
  pub unwritten : (now : List ℕ → Option Sharing) → ((a : List ℕ) → now a ≡ at a) → (change : Sharing → Sharing) → change (no_links (share q)) ≡ no_links (share q) → None ≡ at q → (a : List ℕ) → pools_of now a ≡ with_pool (pools_of at) q change a
  unwritten now same change kept is a = ap (pool_or (share a)) (same a) ∙ by_test (bytes_eq q a)
      (λ e. rw (e, same_at None is a e) (subst (λ b. no_links (share b) ≡ change (no_links (share b))) (same_bytes q a e) (sym kept)))
      (λ e. rw e refl)

  -- one was put
  pub put : (now : List ℕ → Option Sharing) (pool : Sharing) → ((a : List ℕ) → now a ≡ (if bytes_eq q a then Some pool else at a))
      → (a : List ℕ) → pools_of now a ≡ with_pool (pools_of at) q (λ old. pool) a
  put now pool set a = ap (pool_or (share a)) (set a) ∙ by_test (bytes_eq q a) (λ e. rw e refl) (λ e. rw e refl)

  -- where none was there, the change was made to one without links
  pub begun : (now : List ℕ → Option Sharing) → ((a : List ℕ) → now a ≡ at a) → (new : Sharing) (change : Sharing → Sharing) → None ≡ at q → new ≡ change (no_links (share q))
      → (a : List ℕ) → with_pool (pools_of now) q (λ old. new) a ≡ with_pool (pools_of at) q change a
  begun now same new change none changed a = by_test (bytes_eq q a)
      (λ e. rw (e, same_at None none a e) (changed ∙ ap (λ b. change (no_links (share b))) (same_bytes q a e)))
      (λ e. rw e (ap (pool_or (share a)) (same a)))

  -- one without links was removed
  pub forgotten : (now : List ℕ → Option Sharing) (pool : Sharing) → Some pool ≡ at q → has_no_links pool ≡ true → pool.distribution ≡ share q
      → ((a : List ℕ) → now a ≡ (if bytes_eq q a then None else at a)) → (a : List ℕ) → pools_of now a ≡ with_pool (pools_of at) q rested a
  forgotten now pool is empty shared set a = ap (pool_or (share a)) (set a) ∙ by_test (bytes_eq q a)
      (λ e. rw (e, same_at (Some pool) is a e) (rested_none pool (share a) (shared ∙ ap share (same_bytes q a e)) empty))
      (λ e. rw e refl)

  -- one with links stays
  pub stayed : (pool : Sharing) → Some pool ≡ at q → has_no_links pool ≡ false → (a : List ℕ) → pools_of at a ≡ with_pool (pools_of at) q rested a
  stayed pool is some a = by_test (bytes_eq q a)
      (λ e. rw (e, same_at (Some pool) is a e) (sym (rested_same pool some)))
      (λ e. rw e refl)

-- what a call ensures at its end
pub on_ok_then : {T E : Type 0} (r : Result T E) (P Q : Type 0) → OnOk r P → (P → Q) → OnOk r Q
on_ok_then (Ok x) P Q is f = f is
on_ok_then (Err e) P Q is f = tt

pub on_told : {T E : Type 0} (r : Result T E) (P Q : T → Type 0) → IfOk r P → ((x : T) → P x → Q x) → IfOk r Q
on_told (Ok x) P Q is f = f x is
on_told (Err e) P Q is f = tt

-- an address without links has no copies
pub no_copies : (distribution : Distribution) → copies (no_links distribution) ≡ []
no_copies Balanced = refl
no_copies Closest = refl
no_copies Multicast = refl
