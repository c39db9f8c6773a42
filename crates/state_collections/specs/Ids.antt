-- The value of a delivery-id in a table by connection and session.
use Rattle.std.specs.Prelude.{◌≡◌, ◌==◌, ◌&&◌, ◌<◌, ◌^◌, ℕ, Bool, List, nat_lt, Option, Some, None, if◌then◌else◌}
use Rattle.std.specs.Option.{option_map}
use Rattle.std.specs.Borrow.{LendsSo, MutBor, Fml, RattleType}
use Rattle.std.specs.List.{AllByRecursion}
use Rattle.amqp_session.specs.Serials.{distance}
use Rattle.amqp_session.specs.Ranges.{has, IsRising}
use Rattle.state_collections.specs.NumberMap.{at_number}
use Rattle.state_collections.specs.declared.number_map.NumberMap.{NumberMap}
use Rattle.state_collections.specs.declared.by_session.BySession.{BySession}
use Rattle.state_collections.specs.contracts.by_session.BySession.{the_row}

abbrev pub in_ids : {V : Type 0} → Option (NumberMap V) → ℕ → Option V
in_ids None id = None
in_ids (Some m) id = at_number m id

-- of the session on a channel of the router, of a connection
abbrev pub at_id : {V : Type 0} → BySession V → ℕ → ℕ → ℕ → Option V
at_id s c o id = in_ids (in_ids (at_number s.rows c) o) id

-- These ids are those of the first so many of a range that are there.
pub record IsAsked (first : ℕ) (there : ℕ → Bool) (steps : ℕ) (ids : List ℕ) : Type 0 where
  pub exact : (q : ℕ) → q < 2 ^ 32 → has q ids ≡ (nat_lt (distance first q) steps && there q)
  pub rising : IsRising first ids
  pub near : AllByRecursion (λ id. distance first id < steps) ids

-- What was written last has this id, if a value had it, and all others have what they had before.
abbrev pub LendsId : (V : RattleType) → MutBor (BySession V.Denot) → ℕ → ℕ → ℕ → Option (MutBor V.Denot) → Fml
LendsId V s conn own id r = LendsSo (the_row V) V s r
    (λ n w. (c o q : ℕ) → at_id n c o q
    ≡ (if conn == c then (if own == o then (if id == q then option_map (λ _. w) (at_id s.now c o q) else at_id s.now c o q) else at_id s.now c o q) else at_id s.now c o q))
    (λ n. (c o q : ℕ) → at_id n c o q ≡ at_id s.now c o q)
