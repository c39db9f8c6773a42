-- The configuration in a trace: how the links of an address share its messages.
use Rattle.std.specs.Prelude.{ℕ, Bool, true, false, List, [], ◌∷◌}
use Rattle.route_table.specs.declared.sections.Distribution.{Distribution}
use Rattle.route_table.specs.declared.sections.Distribution.TheVariants.{Balanced, Closest, Multicast}
use Rattle.route_table.specs.Places.{Routing, distribution_of}
use Rattle.router_trace.specs.Trace.{Did, Out, Took, Bound, Booked, Routed, Began, Beginning, Trace}

-- A router is opened on top of what happened before. What is said of connections, sessions, links and deliveries begins anew
-- there: nothing older counts. It goes on with the configuration and the book of its beginning.
abbrev pub opened : Beginning → Trace → Trace
opened g below = Began g ∷ below

-- the trace before the first event of a router that nothing preceded
abbrev pub beginning : Beginning → Trace
beginning g = opened g []

-- a configuration without any prefix
abbrev pub no_routing : Routing
no_routing = record { addresses = []; routes_in = []; routes_out = [] }

-- the configuration that the router was opened with
abbrev pub routing : Trace → Routing
routing [] = no_routing
routing (Did s ∷ t) = routing t
routing (Out c i ∷ t) = routing t
routing (Took c n ∷ t) = routing t
routing (Bound b ∷ t) = routing t
routing (Booked acts full ∷ t) = routing t
routing (Routed passage ∷ t) = routing t
routing (Began g ∷ t) = g.routing

-- how the links of an address share its messages
abbrev pub distribution : Trace → List ℕ → Distribution
distribution t address = distribution_of (routing t) address

-- each message of an address goes to every consumer
abbrev pub is_multicast : Distribution → Bool
is_multicast Balanced = false
is_multicast Closest = false
is_multicast Multicast = true
