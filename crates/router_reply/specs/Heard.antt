-- What the router keeps of an event that it handled, for its answer: by the trace before the event.
use Rattle.std.specs.Prelude.{◌≡◌, ℕ, true, List, Option, Some, None}
use Rattle.amqp_model.specs.declared.perf.Disposition.{Disposition as ADisposition}
use Rattle.amqp_model.specs.declared.item.Item.{Item}
use Rattle.router_trace.specs.declared.event.Event.{Event}
use Rattle.router_trace.specs.declared.event.Event.TheVariants as event
use Rattle.router_trace.specs.declared.event.ConnectionId.{ConnectionId}
use Rattle.router_trace.specs.Trace.{Trace, puts_of}
use Rattle.router_trace.specs.Deliveries.{last_of}
use Rattle.router_trace.specs.Links.{link_place}
use Rattle.router_trace.specs.Sessions.{theirs, maps}
use Rattle.router_trace.specs.Settling.{open_ids, part_of}
use Rattle.state_links.specs.Fits.{channel_of}
use Rattle.reply_rows.specs.declared.answer.Answer.{Answer}
use Rattle.reply_rows.specs.declared.answer.Answer.TheVariants.{Settle}
use Rattle.router_state.specs.Tables.{beats}
use Rattle.router_reply.specs.declared.heard.Heard.{Heard}
use Rattle.reply_transfers.specs.Transfers.{disposition_in}

-- the deliveries that a disposition decides without settling them
abbrev pub ids_named : Trace → ℕ → ℕ → Option ADisposition → List ℕ → Type 0
ids_named t c own None ids = Unit {0}
ids_named t c own (Some x) ids = ids ≡ open_ids t c own x.first (last_of x)

abbrev pub ids_found : Trace → ℕ → Item → Answer → List ℕ → Type 0
ids_found t c i (Settle own) ids = ids_named t c own (disposition_in i) ids
ids_found t c i _ ids = Unit {0}

-- what a transfer makes of its delivery, and these deliveries
pub record ItemHeard (t : Trace) (d : ConnectionId) (i : Item) (answer : Answer) (h : Heard) : Type 0 where
  pub part : (own : ℕ) → maps (theirs t d.0 (channel_of i)) own ≡ true → h.part ≡ part_of i (link_place t d.0 own)
  pub ids : ids_found t d.0 i answer h.ids.items

-- and the heartbeats that a tick makes due
abbrev pub IsHeard : Trace → Event → Answer → Heard → Type 0
IsHeard t (event.Item d i) answer h = ItemHeard t d i answer h
IsHeard t (event.Tick ms) answer h = puts_of h.beats.items ≡ beats t (event.Tick ms) ms
IsHeard t _ answer h = Unit {0}
