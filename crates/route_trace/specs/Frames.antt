-- The frames of a routed link: which frame of a peer passes, and what goes out for a frame that is held.
use Rattle.std.specs.Prelude.{ℕ, false, List, [], Option, Some, None}
use Rattle.amqp_model.specs.declared.item.Item.{Item}
use Rattle.amqp_model.specs.declared.item.Item.TheVariants as item
use Rattle.amqp_model.specs.declared.perf.Flow.{Flow}
use Rattle.amqp_model.specs.declared.perf.Perf.{Perf}
use Rattle.amqp_model.specs.declared.perf.Perf.TheVariants as perf
use Rattle.amqp_session.specs.declared.states.FlowState.{FlowState}
use Rattle.route_links.specs.declared.passing.Passing.{Passing}
use Rattle.route_links.specs.declared.passing.Passing.TheVariants as pass

-- The peer's handle that a frame of a link names. (A disposition names none, and an attach a new one.)
abbrev pub handle_of : Perf → Option ℕ
handle_of (perf.Flow f) = f.handle
handle_of (perf.Transfer x) = Some x.handle
handle_of (perf.Detach x) = Some x.handle
handle_of _ = None

-- a frame of a link that passes as it came
abbrev pub passing_of : Perf → List ℕ → Option Passing
passing_of (perf.Flow f) payload = Some (pass.Flow f)
passing_of (perf.Transfer x) payload = Some (pass.Transfer x payload)
passing_of (perf.Detach x) payload = Some (pass.Detach x)
passing_of _ payload = None

-- what an item that the router put on a link is, as a frame that passes
abbrev pub passed_perf : Perf → List ℕ → Option Passing
passed_perf (perf.Attach a) payload = Some (pass.Attach a)
passed_perf body payload = passing_of body payload

-- the payload of an item
abbrev pub payload_of : Item → List ℕ
payload_of (item.Frame sasl own body payload) = payload
payload_of _ = []

abbrev pub passed_of : Item → Option Passing
passed_of (item.Frame sasl own body payload) = passed_perf body payload
passed_of _ = None

-- A flow as the router writes it: all that it says of the link as it came, the session's figures as the router has them.
abbrev pub flow_for : ℕ → FlowState → Flow → Flow
flow_for handle told f = record f {
  next_incoming_id = told.next_incoming;
  incoming_window = told.incoming_window;
  next_outgoing_id = told.next_outgoing;
  outgoing_window = 2048;
  handle = Some handle;
}

-- the performative that goes out on a handle of the router, on a session with these figures; and its payload
abbrev pub perf_for : ℕ → FlowState → Passing → Perf
perf_for handle told (pass.Attach a) = perf.Attach (record a { handle = handle })
perf_for handle told (pass.Flow f) = perf.Flow (flow_for handle told f)
perf_for handle told (pass.Transfer x payload) = perf.Transfer (record x { handle = handle })
perf_for handle told (pass.Disposition n d) = perf.Disposition d
perf_for handle told (pass.Detach x) = perf.Detach (record x { handle = handle })

abbrev pub payload_for : Passing → List ℕ
payload_for (pass.Transfer x payload) = payload
payload_for f = []

abbrev pub item_for : ℕ → ℕ → FlowState → Passing → Item
item_for own handle told f = item.Frame false own (perf_for handle told f) (payload_for f)
