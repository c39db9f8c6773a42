-- When the index of links is that of what is known of them, and they stand in order.
use Rattle.std.specs.Prelude.{◌≡◌, ℕ, Option}
use Rattle.std.specs.List.Sorted.{IsStrictlySortedBy}
use Rattle.std.specs.Map.{keys_of}
use Rattle.std.specs.Ordering.{nat_cmp}
use Rattle.route_credit.specs.Links.{total}
use Rattle.route_credit.specs.Ranks.{rank_at, Ranks}
use Rattle.route_credit.specs.declared.links.Links.{Links}

pub record IsIndexed {X : Type 0} (rank : X → Option ℕ) (amount : X → ℕ) (links : Links X) : Type 0 where
  pub ranks : Ranks links.ranking (rank_at rank links.rows.entries)
  pub total : links.total ≡ total amount links.rows.entries
  pub ordered : IsStrictlySortedBy nat_cmp (keys_of links.rows.entries)
