-- Touched links: between two tables, a link whose number isn't touched hasn't changed.
use Rattle.std.specs.Prelude.{◌≡◌, ◌≤◌, ℕ, Bool, true, false, ◌==◌, if◌then◌else◌, Option, Some, None}
use Rattle.std.specs.List.{list_any}
use Rattle.std.specs.Ordering.{nat_cmp}
use Rattle.std.specs.BTreeMap.{BTreeMap, get}
use Rattle.state_collections.specs.NumberSet.{has}
use Rattle.state_links.specs.declared.link.Link.{Link}
use Rattle.state_links.specs.declared.links.Links.{Links}
use Rattle.state_links.specs.declared.table.LinkTable.{LinkTable}
use Rattle.state_collections.specs.Places.{at}
use Rattle.state_collections.specs.NumberMap.{at_number}

-- a link has this number
abbrev pub is_numbered : ℕ → Option Link → Bool
is_numbered k None = false
is_numbered k (Some l) = l.number == k

-- a link, if it has this number
abbrev pub if_number : ℕ → Option Link → Option Link
if_number k None = None
if_number k (Some l) = if l.number == k then Some l else None

-- the link on the session and the handle that are named
abbrev pub named_link : Option ℕ → Option ℕ → (ℕ → ℕ → Option Link) → Option Link
named_link None handle known = None
named_link (Some o) None known = None
named_link (Some o) (Some h) known = known o h

-- a link of a session, or of a connection, has this number
abbrev pub in_session : ℕ → BTreeMap ℕ Link → Bool
in_session k handles = list_any (λ e. e.1.number == k) handles.entries

abbrev pub in_connection : ℕ → BTreeMap ℕ (BTreeMap ℕ Link) → Bool
in_connection k sessions = list_any (λ e. in_session k e.1) sessions.entries

pub record Touched (old new : LinkTable) : Type 0 where
  pub before : (k : ℕ) → has new.touched k ≡ false → has old.touched k ≡ false
  pub links : (k : ℕ) → has new.touched k ≡ false → (c o h : ℕ) → if_number k (at old.links c o h) ≡ if_number k (at new.links c o h)
  pub numbers : (k : ℕ) → has new.touched k ≡ false → at_number old.names.numbers.entries k ≡ at_number new.names.numbers.entries k

-- the number of a link that may have changed
abbrev pub is_touched : Links → ℕ → Bool
is_touched s k = has s.table.touched k

-- for each number that the new table hasn't touched: the old one hasn't either, and link and attachment are the same in both
abbrev pub Touches : Links → Links → Type 0
Touches old new = Touched old.table new.table

-- the lowest number that passes, if any does
abbrev pub IsLowest : (ℕ → Bool) → Option ℕ → Type 0
IsLowest passes None = (n : ℕ) → passes n ≡ false
IsLowest passes (Some n) = (passes n ≡ true) × ((m : ℕ) → passes m ≡ true → n ≤ m)
