-- The values that the attributes of a configuration take.
use Rattle.std.specs.Prelude.{ℕ, ◌+◌, ◌-◌, ◌*◌, Bool, true, false, ◌==◌, ◌&&◌, List, [], ◌∷◌, length, fold, filter, Option, None, Some, is_some, nat_lt, nat_le, not, codes, if◌then◌else◌}
use Rattle.std.specs.List.{slice_split}
use Rattle.std.specs.Str.{bytes_eq, all_ascii_digits}
use Rattle.route_table.specs.Lines.{is_blank}
use Rattle.route_table.specs.declared.attributes.Attribute.{Attribute}
use Rattle.route_table.specs.declared.attributes.Attribute.TheVariants as attributes
use Rattle.route_table.specs.declared.attributes.SectionKind.{SectionKind}
use Rattle.route_table.specs.declared.attributes.SectionKind.TheVariants as kinds
use Rattle.route_table.specs.declared.sections.Distribution.{Distribution}
use Rattle.route_table.specs.declared.sections.Distribution.TheVariants.{Balanced, Closest, Multicast}
use Rattle.route_table.specs.declared.sections.Direction.{Direction}
use Rattle.route_table.specs.declared.sections.Direction.TheVariants.{In, Out}
use Rattle.route_table.specs.declared.sections.Role.{Role}
use Rattle.route_table.specs.declared.sections.Role.TheVariants.{Normal, RouteContainer}
use Rattle.route_table.specs.declared.sections.Mechanism.{Mechanism}
use Rattle.route_table.specs.declared.sections.Mechanism.TheVariants.{Anonymous, Plain}

-- two kinds of section are the same, and two attributes
abbrev pub kind_code : SectionKind → ℕ
kind_code kinds.Router = 0
kind_code kinds.Listener = 1
kind_code kinds.Address = 2
kind_code kinds.LinkRoute = 3
kind_code kinds.User = 4

abbrev pub is_kind : SectionKind → SectionKind → Bool
is_kind one other = kind_code one == kind_code other

abbrev pub attribute_code : Attribute → ℕ
attribute_code attributes.Id = 0
attribute_code attributes.Mode = 1
attribute_code attributes.Host = 2
attribute_code attributes.Port = 3
attribute_code attributes.Role = 4
attribute_code attributes.AuthenticatePeer = 5
attribute_code attributes.SaslMechanisms = 6
attribute_code attributes.Prefix = 7
attribute_code attributes.Distribution = 8
attribute_code attributes.ContainerId = 9
attribute_code attributes.Direction = 10
attribute_code attributes.Name = 11
attribute_code attributes.Password = 12

abbrev pub is_attribute : Attribute → Attribute → Bool
is_attribute one other = attribute_code one == attribute_code other

-- the section of a name
abbrev pub kind_of : List ℕ → Option SectionKind
kind_of name =
    if bytes_eq name (codes "router") then Some kinds.Router
    else if bytes_eq name (codes "listener") then Some kinds.Listener
    else if bytes_eq name (codes "address") then Some kinds.Address
    else if bytes_eq name (codes "linkRoute") then Some kinds.LinkRoute
    else if bytes_eq name (codes "user") then Some kinds.User
    else None

-- the attribute of a key in each section
abbrev pub router_attribute : List ℕ → Option Attribute
router_attribute key =
    if bytes_eq key (codes "id") then Some attributes.Id
    else if bytes_eq key (codes "mode") then Some attributes.Mode
    else None

abbrev pub listener_attribute : List ℕ → Option Attribute
listener_attribute key =
    if bytes_eq key (codes "host") then Some attributes.Host
    else if bytes_eq key (codes "port") then Some attributes.Port
    else if bytes_eq key (codes "role") then Some attributes.Role
    else if bytes_eq key (codes "authenticatePeer") then Some attributes.AuthenticatePeer
    else if bytes_eq key (codes "saslMechanisms") then Some attributes.SaslMechanisms
    else None

abbrev pub address_attribute : List ℕ → Option Attribute
address_attribute key =
    if bytes_eq key (codes "prefix") then Some attributes.Prefix
    else if bytes_eq key (codes "distribution") then Some attributes.Distribution
    else None

abbrev pub link_route_attribute : List ℕ → Option Attribute
link_route_attribute key =
    if bytes_eq key (codes "prefix") then Some attributes.Prefix
    else if bytes_eq key (codes "containerId") then Some attributes.ContainerId
    else if bytes_eq key (codes "direction") then Some attributes.Direction
    else None

abbrev pub user_attribute : List ℕ → Option Attribute
user_attribute key =
    if bytes_eq key (codes "name") then Some attributes.Name
    else if bytes_eq key (codes "password") then Some attributes.Password
    else None

abbrev pub attribute_of : SectionKind → List ℕ → Option Attribute
attribute_of kinds.Router key = router_attribute key
attribute_of kinds.Listener key = listener_attribute key
attribute_of kinds.Address key = address_attribute key
attribute_of kinds.LinkRoute key = link_route_attribute key
attribute_of kinds.User key = user_attribute key

-- a number in decimal digits; leading zeros are allowed
abbrev pub decimal : List ℕ → ℕ
decimal digits = fold (λ n digit. 10 * n + (digit - 48)) 0 digits

-- a TCP port: a number in decimal digits, from 1 to 65535
unfoldable pub port_of : List ℕ → Option ℕ
port_of value = if all_ascii_digits value && nat_lt 0 (decimal value) && nat_lt (decimal value) 65536 then Some (decimal value) else None

abbrev pub role_of : List ℕ → Option Role
role_of value =
    if bytes_eq value (codes "normal") then Some Normal
    else if bytes_eq value (codes "route-container") then Some RouteContainer
    else None

abbrev pub switch_of : List ℕ → Option Bool
switch_of value =
    if bytes_eq value (codes "yes") then Some true
    else if bytes_eq value (codes "no") then Some false
    else None

abbrev pub distribution_named : List ℕ → Option Distribution
distribution_named value =
    if bytes_eq value (codes "balanced") then Some Balanced
    else if bytes_eq value (codes "closest") then Some Closest
    else if bytes_eq value (codes "multicast") then Some Multicast
    else None

abbrev pub direction_named : List ℕ → Option Direction
direction_named value =
    if bytes_eq value (codes "in") then Some In
    else if bytes_eq value (codes "out") then Some Out
    else None

abbrev pub mechanism_named : List ℕ → Option Mechanism
mechanism_named word =
    if bytes_eq word (codes "ANONYMOUS") then Some Anonymous
    else if bytes_eq word (codes "PLAIN") then Some Plain
    else None

-- the words of a value, between blanks
abbrev pub words : List ℕ → List (List ℕ)
words value = filter (λ word. nat_lt 0 (length word)) (slice_split is_blank value)

-- the two as one list, where both are there
abbrev pub both : Option Mechanism → Option (List Mechanism) → Option (List Mechanism)
both None rest = None
both (Some one) None = None
both (Some one) (Some rest) = Some (one ∷ rest)

-- each word's mechanism, if each has one
abbrev pub mechanisms_named : List (List ℕ) → Option (List Mechanism)
mechanisms_named [] = Some []
mechanisms_named (word ∷ words) = both (mechanism_named word) (mechanisms_named words)

unfoldable pub mechanisms_of : List ℕ → Option (List Mechanism)
mechanisms_of value = mechanisms_named (words value)

-- an attribute takes a value. Texts are at most 1,024 bytes, a router's id 128; a host and a password have no limit
abbrev pub takes : Attribute → List ℕ → Bool
takes attributes.Id value = nat_le (length value) 128
takes attributes.Mode value = bytes_eq value (codes "standalone")
takes attributes.Host value = true
takes attributes.Port value = is_some (port_of value)
takes attributes.Role value = is_some (role_of value)
takes attributes.AuthenticatePeer value = is_some (switch_of value)
takes attributes.SaslMechanisms value = is_some (mechanisms_of value)
takes attributes.Prefix value = nat_le (length value) 1024
takes attributes.Distribution value = is_some (distribution_named value)
takes attributes.ContainerId value = nat_le (length value) 1024
takes attributes.Direction value = is_some (direction_named value)
takes attributes.Name value = nat_le (length value) 1024 && not (bytes_eq value (codes "anonymous"))
takes attributes.Password value = true
