-- Which routes and distribution an address has, by the sections of a configuration.
use Rattle.std.specs.Prelude.{◌≡◌, ℕ, List, map, filter, Option, option_map, unwrap_or}
use Rattle.route_table.specs.declared.sections.Address.{Address}
use Rattle.route_table.specs.declared.sections.LinkRoute.{LinkRoute}
use Rattle.route_table.specs.declared.sections.Direction.{Direction}
use Rattle.route_table.specs.declared.sections.Direction.TheVariants.{In, Out}
use Rattle.route_table.specs.declared.sections.Distribution.{Distribution}
use Rattle.route_table.specs.declared.sections.Distribution.TheVariants.{Balanced}
use Rattle.route_table.specs.Prefixes.{best}
use Rattle.route_table.specs.Sections.{is_direction}
use Rattle.route_table.specs.Settings.{Settings}

-- the prefixes of addresses with their distributions, and of each direction's link routes with their container-ids
pub record Routing : Type 0 where
  pub addresses : List (List ℕ × Distribution)
  pub routes_in : List (List ℕ × List ℕ)
  pub routes_out : List (List ℕ × List ℕ)

abbrev pub address_pairs : List Address → List (List ℕ × Distribution)
address_pairs sections = map (λ s. (s.prefix, s.distribution)) sections

abbrev pub route_pairs : Direction → List LinkRoute → List (List ℕ × List ℕ)
route_pairs direction sections = map (λ s. (s.prefix, s.container_id)) (filter (λ s. is_direction s.direction direction) sections)

-- what a configuration says of addresses
abbrev pub routing_of : Settings → Routing
routing_of settings = record { addresses = address_pairs settings.addresses; routes_in = route_pairs In settings.link_routes; routes_out = route_pairs Out settings.link_routes }

-- how the deliveries of an address are shared: as its longest prefix says, and balanced where none matches
abbrev pub distribution_of : Routing → List ℕ → Distribution
distribution_of routing address = unwrap_or (option_map (λ e. e.1) (best routing.addresses address)) Balanced

-- the container that gets links on which the peer sends
abbrev pub route_in_of : Routing → List ℕ → Option (List ℕ)
route_in_of routing address = option_map (λ e. e.1) (best routing.routes_in address)

-- the container that gets links on which the peer receives
abbrev pub route_out_of : Routing → List ℕ → Option (List ℕ)
route_out_of routing address = option_map (λ e. e.1) (best routing.routes_out address)

-- both say the same of every address
pub record FindsAs (one other : Routing) : Type 0 where
  pub distribution : (address : List ℕ) → distribution_of one address ≡ distribution_of other address
  pub route_in : (address : List ℕ) → route_in_of one address ≡ route_in_of other address
  pub route_out : (address : List ℕ) → route_out_of one address ≡ route_out_of other address
