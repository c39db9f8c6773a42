-- The pools of all addresses after a change in one row.
use Rattle.std.proofs.Common.{◌≡◌, ◌∙◌, sym, ap, refl, subst, ℕ, Bool, true, false, true≢false, cond, if◌then◌else◌, option_map, Option, Some, None, is_some, List}
use Rattle.std.specs.Prelude.{◌==◌}
use Rattle.std.specs.Str.{bytes_eq}
use Rattle.std.proofs.lemmas.Bool.{eqb-true, eq-eqb}
use Rattle.route_credit.specs.Pool.{no_links, Sharing}
use Rattle.route_table.specs.declared.sections.Distribution.{Distribution}
use Rattle.state_pools.specs.Addresses.{pool_or, with_pool}
use Rattle.state_pools.specs.Digest.{digest_of}
use Rattle.state_pools.specs.Fits.{has_link, has_no_pools, in_row, pool_in_row}
use Rattle.state_pools.specs.declared.row.Row.{Row}
use Rattle.state_pools.proofs.AtAddress.{by_test, same_bytes}
use Rattle.state_pools.proofs.Places.{nothing}

-- a row that was lent and written
pub lent : (rows rows' : ℕ → Option Row) (key : ℕ) (old new : Row) → Some old ≡ rows key → ((d : ℕ) → rows' d ≡ (if key == d then option_map (λ _. new) (rows d) else rows d)) → (d : ℕ) → rows' d ≡ (if key == d then Some new else rows d)
lent rows rows' key old new found through d = through d ∙ by_test (key == d)
    (λ e. let here : rows d ≡ Some old = ap rows (sym (eqb-true key d e)) ∙ sym found in rw (e, here) refl)
    (λ e. rw e refl)

-- and one that was then removed
pub swept : (rows lent_rows rows' : ℕ → Option Row) (key : ℕ) (old new : Row) → Some old ≡ rows key → ((d : ℕ) → lent_rows d ≡ (if key == d then option_map (λ _. new) (rows d) else rows d))
    → ((d : ℕ) → rows' d ≡ (if key == d then None else lent_rows d)) → (d : ℕ) → rows' d ≡ (if key == d then None else rows d)
swept rows lent_rows rows' key old new found through gone d =
    gone d ∙ ap (λ r. if key == d then None else r) (lent rows lent_rows key old new found through d) ∙ inside (key == d) (rows d)
  where
    inside : (b : Bool) (r : Option Row) → (if b then None else (if b then Some new else r)) ≡ (if b then None else r)
    inside true r = refl
    inside false r = refl

-- the row of a key, once it is another one
pub there : (rows : ℕ → Option Row) (rows' : ℕ → Option Row) (key : ℕ) (row : Option Row) (q : List ℕ) → key ≡ digest_of q → ((d : ℕ) → rows' d ≡ (if key == d then row else rows d)) → rows' (digest_of q) ≡ row
there rows rows' key row q is set = set (digest_of q) ∙ ap (λ b. cond b row (rows (digest_of q))) (eq-eqb key (digest_of q) is)

-- what has a pool has it in the row of its digest
pub stands : (rows : ℕ → Option Row) (q : List ℕ) (key : ℕ) (row : Option Row) → key ≡ digest_of q → row ≡ rows key → is_some (in_row (rows (digest_of q)) q) ≡ true → is_some (in_row row q) ≡ true
stands rows q key row is found there = ap (λ r. is_some (in_row r q)) (found ∙ ap rows is) ∙ there

-- an address has a pool if that has a link
pub has_pool : (d : Distribution) (found : Option Sharing) (n : ℕ) → has_link (pool_or d found) n ≡ true → is_some found ≡ true
has_pool d None n there = absurd cc
has_pool d (Some pool) n there = refl

-- nothing is in an empty row
pub none_in : (row : Row) → has_no_pools row ≡ true → (a : List ℕ) → None ≡ in_row (Some row) a
none_in row empty a = sym (nothing row.pools empty a)

module _ (share : List ℕ → Distribution) where
  -- the pools of a row
  abbrev pub row_pools : Option Row → List ℕ → Sharing
  row_pools row a = pool_or (share a) (in_row row a)

  -- the first pool of a row
  pub first_pool : (new row : Row) (q : List ℕ) (change : Sharing → Sharing) → ((a : List ℕ) → pool_in_row share new a ≡ no_links (share a)) → ((a : List ℕ) → pool_in_row share row a ≡ with_pool (pool_in_row share new) q change a)
      → (a : List ℕ) → row_pools (Some row) a ≡ with_pool (row_pools None) q change a
  first_pool new row q change empty changed a = changed a ∙ ap (λ p. if bytes_eq q a then change p else p) (empty a)

  -- a row that is emptied
  pub emptied : (old row : Row) (q : List ℕ) (change : Sharing → Sharing) → has_no_pools row ≡ true → ((a : List ℕ) → pool_in_row share row a ≡ with_pool (pool_in_row share old) q change a)
      → (a : List ℕ) → row_pools None a ≡ with_pool (row_pools (Some old)) q change a
  emptied old row q change empty changed a = ap (pool_or (share a)) (none_in row empty a) ∙ changed a

  module _ (rows : ℕ → Option Row) (q : List ℕ) (key : ℕ) (is : key ≡ digest_of q) where
    -- the pool of an address is in the row that its digest finds
    pub found : (row : Option Row) → row ≡ rows key → row_pools row q ≡ row_pools (rows (digest_of q)) q
    found row there = ap (λ r. row_pools r q) (there ∙ ap rows is)

    -- the row of an address changed
    pub changed : (rows' : ℕ → Option Row) (old row : Option Row) (change : Sharing → Sharing) → old ≡ rows key → ((d : ℕ) → rows' d ≡ (if key == d then row else rows d))
        → ((a : List ℕ) → row_pools row a ≡ with_pool (row_pools old) q change a)
        → (a : List ℕ) → row_pools (rows' (digest_of a)) a ≡ with_pool (λ b. row_pools (rows (digest_of b)) b) q change a
    changed rows' old row change there set change_is a = ap (λ r. row_pools r a) (set (digest_of a)) ∙ by_test (key == digest_of a)
        (λ e. ap (λ b. row_pools (cond b row (rows (digest_of a))) a) e ∙ change_is a ∙ ap (λ r. with_pool (row_pools r) q change a) (there ∙ ap rows (eqb-true key (digest_of a) e)))
        (λ e. ap (λ b. row_pools (cond b row (rows (digest_of a))) a) e ∙ sym (ap (λ b. cond b (change (row_pools (rows (digest_of a)) a)) (row_pools (rows (digest_of a)) a)) (other e)))
      where
        -- equal bytes have equal digests
        other : (key == digest_of a) ≡ false → bytes_eq q a ≡ false
        other e = by_test (bytes_eq q a) (λ f. absurd (true≢false (sym (eq-eqb key (digest_of a) (is ∙ ap digest_of (same_bytes q a f))) ∙ e))) (λ f. f)

    -- what the pool of that address is then
    pub here_then : (rows' : ℕ → Option Row) (row : Option Row) → ((d : ℕ) → rows' d ≡ (if key == d then row else rows d)) → row_pools (rows' (digest_of q)) q ≡ row_pools row q
    here_then rows' row set = ap (λ r. row_pools r q) (there rows rows' key row q is set)

    -- no row was there to be changed
    pub unchanged : (rows' : ℕ → Option Row) → rows' ≡ rows → (change : Sharing → Sharing) → change (no_links (share q)) ≡ no_links (share q) → None ≡ rows key
        → (a : List ℕ) → row_pools (rows' (digest_of a)) a ≡ with_pool (λ b. row_pools (rows (digest_of b)) b) q change a
    unchanged rows' same change kept none a = ap (λ f. row_pools (f (digest_of a)) a) same ∙ by_test (bytes_eq q a)
        (λ e. let bytes : q ≡ a = same_bytes q a e in
        let at : rows (digest_of a) ≡ None = ap rows (sym (is ∙ ap digest_of bytes)) ∙ sym none in
        rw (e, at) (subst (λ b. no_links (share b) ≡ change (no_links (share b))) bytes (sym kept)))
        (λ e. rw e refl)
