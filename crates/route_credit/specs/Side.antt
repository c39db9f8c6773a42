-- The links of one side of an address, of which one alone stands in place.
use Rattle.std.specs.Prelude.{ℕ, Bool, true, ◌==◌, length, Option, List, [], ◌∷◌}
use Rattle.route_credit.specs.Indexed.{IsIndexed}
use Rattle.route_credit.specs.declared.side.Side.{Side}
use Rattle.route_credit.specs.declared.side.Side.TheVariants.{Empty, One, Several}

abbrev pub links_of : {X : Type 0} → Side X → List (ℕ × X)
links_of Empty = []
links_of (One id link) = (id, link) ∷ []
links_of (Several links) = links.rows.entries

-- one link needs no index; where there are several, their index is that of what is known of them
abbrev pub IsWhole : {X : Type 0} → (X → Option ℕ) → (X → ℕ) → Side X → Type 0
IsWhole rank amount Empty = Unit {0}
IsWhole rank amount (One id link) = Unit {0}
IsWhole rank amount (Several links) = IsIndexed rank amount links

-- whether the link with this number would be alone: none is there, or it stands in place itself
abbrev pub has_no_other : {X : Type 0} → Side X → ℕ → Bool
has_no_other Empty id = true
has_no_other (One one link) id = one == id
has_no_other (Several links) id = length links.rows.entries == 0
