-- What the sections of a configuration say, with the defaults filled in.
use Rattle.std.specs.Prelude.{ℕ, false, List, [], ◌∷◌, Option, None, Some, unwrap_or, codes, if◌then◌else◌}
use Rattle.std.specs.List.{filter_map, find}
use Rattle.std.specs.Option.{option_and_then}
use Rattle.route_table.specs.File.{Section, value_of}
use Rattle.route_table.specs.Settings.{Settings}
use Rattle.route_table.specs.Values.{is_kind, port_of, role_of, switch_of, mechanisms_of, distribution_named, direction_named}
use Rattle.route_table.specs.declared.attributes.Attribute.{Attribute}
use Rattle.route_table.specs.declared.attributes.Attribute.TheVariants as attributes
use Rattle.route_table.specs.declared.attributes.SectionKind.{SectionKind}
use Rattle.route_table.specs.declared.attributes.SectionKind.TheVariants as kinds
use Rattle.route_table.specs.declared.sections.Listener.{Listener}
use Rattle.route_table.specs.declared.sections.Address.{Address}
use Rattle.route_table.specs.declared.sections.LinkRoute.{LinkRoute}
use Rattle.route_table.specs.declared.sections.User.{User}
use Rattle.route_table.specs.declared.sections.Distribution.TheVariants.{Balanced}
use Rattle.route_table.specs.declared.sections.Direction.TheVariants.{In}
use Rattle.route_table.specs.declared.sections.Role.TheVariants.{Normal}
use Rattle.route_table.specs.declared.sections.Mechanism.TheVariants.{Anonymous, Plain}

-- the text of an attribute, or its default
abbrev pub text_of : Section → Attribute → List ℕ → List ℕ
text_of section name default = unwrap_or (value_of name section) default

-- a value of an attribute that is no text, or its default
abbrev pub chosen : {T : Type 0} → Section → Attribute → (List ℕ → Option T) → T → T
chosen section name meaning default = unwrap_or (option_and_then meaning (value_of name section)) default

abbrev pub listener_of : Section → Listener
listener_of section = record {
  host = text_of section attributes.Host (codes "127.0.0.1");
  port = chosen section attributes.Port port_of 5672;
  role = chosen section attributes.Role role_of Normal;
  authenticate_peer = chosen section attributes.AuthenticatePeer switch_of false;
  mechanisms = chosen section attributes.SaslMechanisms mechanisms_of (Anonymous ∷ Plain ∷ []);
}

abbrev pub address_of : Section → Address
address_of section = record { prefix = text_of section attributes.Prefix []; distribution = chosen section attributes.Distribution distribution_named Balanced }

abbrev pub link_route_of : Section → LinkRoute
link_route_of section = record {
  prefix = text_of section attributes.Prefix [];
  container_id = text_of section attributes.ContainerId [];
  direction = chosen section attributes.Direction direction_named In;
}

abbrev pub user_of : Section → User
user_of section = record { name = text_of section attributes.Name []; password = text_of section attributes.Password [] }

-- the sections of one kind, in order, each by its meaning
abbrev pub sections_of : {T : Type 0} → SectionKind → (Section → T) → List Section → List T
sections_of wanted meaning sections = filter_map (λ s. if is_kind s.kind wanted then Some (meaning s) else None) sections

-- the id that the section `router` gives, and `R1` where there is none
abbrev pub router_id_of : Option Section → List ℕ
router_id_of None = codes "R1"
router_id_of (Some section) = text_of section attributes.Id (codes "R1")

unfoldable pub settings_of : List Section → Settings
settings_of sections = record {
  router_id = router_id_of (find (λ s. is_kind s.kind kinds.Router) sections);
  listeners = sections_of kinds.Listener listener_of sections;
  addresses = sections_of kinds.Address address_of sections;
  link_routes = sections_of kinds.LinkRoute link_route_of sections;
  users = sections_of kinds.User user_of sections;
}
