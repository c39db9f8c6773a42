-- What a configuration says.
use Rattle.std.specs.Prelude.{ℕ, false, List, [], ◌∷◌, codes}
use Rattle.route_table.specs.declared.sections.Role.{Role}
use Rattle.route_table.specs.declared.sections.Mechanism.{Mechanism}
use Rattle.route_table.specs.declared.sections.Mechanism.TheVariants.{Anonymous, Plain}
use Rattle.route_table.specs.declared.sections.Listener.{Listener}
use Rattle.route_table.specs.declared.sections.Address.{Address}
use Rattle.route_table.specs.declared.sections.LinkRoute.{LinkRoute}
use Rattle.route_table.specs.declared.sections.User.{User}

-- the router's id, and the sections of each kind in the order of the file
pub record Settings : Type 0 where
  pub router_id : List ℕ
  pub listeners : List Listener
  pub addresses : List Address
  pub link_routes : List LinkRoute
  pub users : List User

-- a router that is called R1 and has no sections
abbrev pub standard : Settings
standard = record { router_id = codes "R1"; listeners = []; addresses = []; link_routes = []; users = [] }

-- both mechanisms
abbrev pub both : List Mechanism
both = Anonymous ∷ Plain ∷ []

-- a listener of which only the role is given
abbrev pub standard_listener : Role → Listener
standard_listener role = record { host = codes "127.0.0.1"; port = 5672; role = role; authenticate_peer = false; mechanisms = both }
