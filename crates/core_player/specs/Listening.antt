-- The door for a connection of a script.
use Rattle.std.specs.Prelude.{Bool, true, false, find, unwrap_or}
use Rattle.route_table.specs.declared.sections.Listener.{Listener}
use Rattle.route_table.specs.declared.sections.Role.{Role}
use Rattle.route_table.specs.declared.sections.Role.TheVariants as role
use Rattle.route_table.specs.Settings.{Settings, standard_listener}
use Rattle.router_trace.specs.declared.event.PeerRole.{PeerRole}
use Rattle.router_trace.specs.declared.event.PeerRole.TheVariants as peer
use Rattle.core_door.specs.declared.door.Door.{Door as DoorState}
use Rattle.core_door.specs.Door.{door_of}

-- a listener's role for peers in this role
abbrev pub listening_for : PeerRole → Role
listening_for peer.Normal = role.Normal
listening_for peer.RouteContainer = role.RouteContainer

abbrev pub is_for : PeerRole → Role → Bool
is_for peer.Normal role.Normal = true
is_for peer.RouteContainer role.RouteContainer = true
is_for _ _ = false

-- the file's first listener for peers in this role, or the standard one if it has none
abbrev pub listener_for : Settings → PeerRole → Listener
listener_for config peers = unwrap_or (find (λ l. is_for peers l.role) config.listeners) (standard_listener (listening_for peers))

-- the door of a new connection in this role
abbrev pub door_for : Settings → PeerRole → DoorState
door_for config peers = door_of config (listener_for config peers)
