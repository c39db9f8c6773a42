-- Laws of prefixes.
use Rattle.std.specs.Prelude.{◌≡◌, ℕ, ◌≤◌, true, false, List, ◌∷◌, ◌++◌, length, All, Contains, MatchOption}
use Rattle.route_table.specs.declared.sections.Address.{Address}
use Rattle.route_table.specs.declared.sections.Distribution.{Distribution}
use Rattle.route_table.specs.declared.sections.LinkRoute.{LinkRoute}
use Rattle.route_table.specs.Places.{distribution_of, route_in_of, route_out_of, routing_of}
use Rattle.route_table.specs.Prefixes.{best, matches}
use Rattle.route_table.specs.Settings.{Settings}

-- the best of these entries for the address matches it, is one of them, and no matching entry is longer; there is none only where none matches
abbrev pub IsLongest : {V : Type 0} → List (List ℕ × V) → List ℕ → Type 0
IsLongest entries address =
    MatchOption (best entries address)
    (All (λ e. matches e.0 address ≡ false) entries)
    (λ b. (matches b.0 address ≡ true) × Contains entries b × All (λ e. matches e.0 address ≡ true → length e.0 ≤ length b.0) entries)

abbrev pub BestIsLongest : Type 0
BestIsLongest =
    ((entries : List (List ℕ × Distribution)) (address : List ℕ) → IsLongest entries address)
    × ((entries : List (List ℕ × List ℕ)) (address : List ℕ) → IsLongest entries address)

-- the settings with these sections on addresses, or with these link routes
abbrev pub with_addresses : Settings → List Address → Settings
with_addresses settings sections = record settings { addresses = sections }

abbrev pub with_routes : Settings → List LinkRoute → Settings
with_routes settings sections = record settings { link_routes = sections }

abbrev pub OtherAddressChangesNothing : Type 0
OtherAddressChangesNothing =
    (settings : Settings) (before after : List Address) (section : Address) (address : List ℕ) → matches section.prefix address ≡ false
    → distribution_of (routing_of (with_addresses settings (before ++ section ∷ after))) address ≡ distribution_of (routing_of (with_addresses settings (before ++ after))) address

abbrev pub OtherRouteChangesNothing : Type 0
OtherRouteChangesNothing =
    (settings : Settings) (before after : List LinkRoute) (section : LinkRoute) (address : List ℕ) → matches section.prefix address ≡ false
    → (route_in_of (routing_of (with_routes settings (before ++ section ∷ after))) address ≡ route_in_of (routing_of (with_routes settings (before ++ after))) address)
    × (route_out_of (routing_of (with_routes settings (before ++ section ∷ after))) address ≡ route_out_of (routing_of (with_routes settings (before ++ after))) address)
