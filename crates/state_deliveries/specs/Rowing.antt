-- The value of a number in a table by session.
use Rattle.std.specs.Prelude.{ℕ, Bool, Option, Some, None}
use Rattle.std.specs.List.{list_any}
use Rattle.std.specs.Option.{is_some}
use Rattle.std.specs.BTreeMap.{BTreeMap}
use Rattle.state_collections.specs.declared.number_map.NumberMap.{NumberMap}
use Rattle.state_collections.specs.Places.{in_map}
use Rattle.state_collections.specs.NumberMap.{at_number}
use Rattle.state_deliveries.specs.declared.rows.Rows.{Rows}

abbrev pub in_row : {V : Type 0} → Option (NumberMap V) → ℕ → Option V
in_row None n = None
in_row (Some s) n = at_number s n

-- of the session on a channel of the router, of a connection
abbrev pub in_rows : {V : Type 0} → Rows V → ℕ → ℕ → ℕ → Option V
in_rows s c o n = in_row (in_map (at_number s.rows c) o) n

-- one of these sessions has a value of the number
abbrev pub is_in_any : {V : Type 0} → ℕ → BTreeMap ℕ (NumberMap V) → Bool
is_in_any n m = list_any (λ e. is_some (at_number e.1 n)) m.entries
