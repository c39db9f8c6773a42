-- Links by number, which is their order of attach, with what is known of each.
use Rattle.std.specs.Prelude.{◌≡◌, ◌<◌, ◌≤◌, ◌+◌, ◌⊎◌, ℕ, Option, None, Some, List, [], ◌∷◌, ◌==◌, not, filter}
use Rattle.std.specs.Ordering.{nat_cmp}
use Rattle.std.specs.BTreeMap.{insert_entry, is_at}
use Rattle.std.specs.Map.{lookup}

-- what is known of a link
abbrev pub link_at : {X : Type 0} → List (ℕ × X) → ℕ → Option X
link_at links id = lookup (is_at (nat_cmp id)) links

-- the links with this one, in its place in the order; what was known of it before is replaced
abbrev pub with_link : {X : Type 0} → List (ℕ × X) → ℕ → X → List (ℕ × X)
with_link links id link = insert_entry nat_cmp links id link

-- the links without this one
abbrev pub without_link : {X : Type 0} → List (ℕ × X) → ℕ → List (ℕ × X)
without_link links id = filter (λ link. not (id == link.0)) links

-- an amount of a link, 0 where nothing is known of it
abbrev pub amount_at : {X : Type 0} → (X → ℕ) → Option X → ℕ
amount_at amount None = 0
amount_at amount (Some link) = amount link

-- the sum of an amount over all links
abbrev pub total : {X : Type 0} → (X → ℕ) → List (ℕ × X) → ℕ
total amount [] = 0
total amount (link ∷ links) = amount link.1 + total amount links

-- the link with the lowest figure; of several, the one that attached first; none only where no link has a figure
abbrev pub IsLeast : (ℕ → Option ℕ) → Option ℕ → Type 0
IsLeast figure None = (id : ℕ) → figure id ≡ None
IsLeast figure (Some id) = (n : ℕ) × (figure id ≡ Some n) × ((other m : ℕ) → figure other ≡ Some m → (n < m) ⊎ ((n ≡ m) × (id ≤ other)))
