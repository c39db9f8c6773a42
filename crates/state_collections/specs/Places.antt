-- The value at a place in a table by connection, session and handle.
use Rattle.std.specs.Prelude.{◌≡◌, ◌==◌, ℕ, Option, Some, None, if◌then◌else◌}
use Rattle.std.specs.Option.{option_map}
use Rattle.std.specs.Borrow.{LendsSo, MutBor, Fml, RattleType}
use Rattle.std.specs.Ordering.{nat_cmp}
use Rattle.std.specs.BTreeMap.{BTreeMap, get}
use Rattle.state_collections.specs.NumberMap.{at_number}
use Rattle.state_collections.specs.declared.by_handle.ByHandle.{ByHandle}
use Rattle.state_collections.specs.contracts.by_handle.ByHandle.{the_row}

abbrev pub in_map : {V : Type 0} → Option (BTreeMap ℕ V) → ℕ → Option V
in_map None k = None
in_map (Some m) k = get nat_cmp m k

-- at a handle of the session on a channel of the router, of a connection
abbrev pub at : {V : Type 0} → ByHandle V → ℕ → ℕ → ℕ → Option V
at s c o h = in_map (in_map (at_number s.rows c) o) h

-- What was written last is at this place, if a value was there, and at all others what was there before.
abbrev pub LendsPlace : (V : RattleType) → MutBor (ByHandle V.Denot) → ℕ → ℕ → ℕ → Option (MutBor V.Denot) → Fml
LendsPlace V s conn own handle r = LendsSo (the_row V) V s r
    (λ n w. (c o h : ℕ) → at n c o h
    ≡ (if conn == c then (if own == o then (if handle == h then option_map (λ _. w) (at s.now c o h) else at s.now c o h) else at s.now c o h) else at s.now c o h))
    (λ n. (c o h : ℕ) → at n c o h ≡ at s.now c o h)
