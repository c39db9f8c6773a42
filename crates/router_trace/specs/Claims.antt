-- A peer's unsettled deliveries in a trace, by the delivery-ids that the peer gave them (AMQP 1.0 part 2, section 2.6.12).
use Rattle.std.specs.Prelude.{ℕ, Bool, false, not, ◌&&◌, ◌==◌, if◌then◌else◌, List, ◌∷◌, [], Option, Some, None, option_map}
use Rattle.amqp_model.specs.declared.perf.Disposition.{Disposition}
use Rattle.amqp_model.specs.declared.perf.Perf.{Perf}
use Rattle.amqp_model.specs.declared.perf.Perf.TheVariants as perf
use Rattle.amqp_model.specs.declared.perf.Role.{Role}
use Rattle.amqp_model.specs.declared.perf.Role.TheVariants.{Sender, Receiver}
use Rattle.amqp_model.specs.declared.perf.Transfer.{Transfer}
use Rattle.amqp_model.specs.declared.item.Item.{Item}
use Rattle.amqp_model.specs.declared.item.Item.TheVariants as item
use Rattle.amqp_session.specs.Ranges.{in_range}
use Rattle.amqp_link.specs.Deliveries.{Frame, delivery}
use Rattle.amqp_link.specs.Receiving.{middle, is_beyond}
use Rattle.router_trace.specs.declared.event.Event.{Event}
use Rattle.router_trace.specs.declared.event.Event.TheVariants as event
use Rattle.router_trace.specs.declared.channel.PeerChannel.{PeerChannel}
use Rattle.router_trace.specs.declared.handle.PeerHandle.{PeerHandle}
use Rattle.router_trace.specs.declared.handle.PeerHandle.TheVariants.{Mapped}
use Rattle.router_trace.specs.Trace.{Did, Out, Took, Bound, Booked, Routed, Began, Trace}
use Rattle.router_trace.specs.Links.{Link, Happened, sends, receives, link, their_handle, ends_handle_in}
use Rattle.router_trace.specs.Sessions.{maps, theirs}
use Rattle.router_trace.specs.declared.binding.Origin.{Origin}
use Rattle.router_trace.specs.Deliveries.{last_of, stands_on, tag_in, origin_of}

-- A peer's unsettled delivery: the router's handle of its link, whether it came whole and is bound to no consumer, and the delivery-tag of its first
-- frame.
pub record Claim : Type 0 where
  pub handle : ℕ
  pub unbound : Bool
  pub tag : Option (List ℕ)

-- A transfer that begins a delivery claims its id, unless it is settled or has no credit, or the id is claimed already: a claimed id stays its
-- link's. A later transfer frees the id if it settles or aborts the delivery. Once a delivery is settled its id is free, even while more of its
-- frames come: another link of the session may then claim it, and keeps it.
abbrev pub ends_well : Transfer → Bool
ends_well x = if x.settled then false else not x.aborted

abbrev pub claim : ℕ → Option (List ℕ) → Transfer → Option Claim
claim h tag x = if ends_well x then Some (record { handle = h; unbound = not x.more; tag = tag }) else None

abbrev pub is_named : Option ℕ → ℕ → Bool
is_named None id = false
is_named (Some k) id = k == id

abbrev pub unless_claimed : Option Claim → Option Claim → Option Claim
unless_claimed (Some v) new = Some v
unless_claimed None new = new

abbrev pub claimed_first : ℕ → Transfer → Bool → ℕ → Option Claim → Option Claim
claimed_first h x beyond id v = if is_named x.delivery_id id && not beyond then unless_claimed v (claim h (tag_in x) x) else v

abbrev pub claimed_later : ℕ → Transfer → Option Claim → Option Claim
claimed_later h x None = None
claimed_later h x (Some v) = if v.handle == h then claim h v.tag x else Some v

abbrev pub claimed_in : ℕ → Transfer → List Frame → Bool → ℕ → Option Claim → Option Claim
claimed_in h x [] beyond id v = claimed_first h x beyond id v
claimed_in h x (f ∷ fs) beyond id v =
    if is_named (delivery f fs).id id then claimed_later h x v else v

abbrev pub claimed_by : ℕ → Transfer → Happened → ℕ → Option Claim → Option Claim
claimed_by h x (sends list) id v = v
claimed_by h x (receives list) id v = claimed_in h x (middle list) (is_beyond list) id v

abbrev pub claimed_on : ℕ → Transfer → Option Link → ℕ → Option Claim → Option Claim
claimed_on h x None id v = v
claimed_on h x (Some l) id v = claimed_by h x l.happened id v

abbrev pub claimed : Transfer → Option PeerHandle → (ℕ → Option Link) → ℕ → Option Claim → Option Claim
claimed x (Some (Mapped h)) known id v = claimed_on h x (known h) id v
claimed x _ known id v = v

-- dispositions that settle: the peer's as a sender, the router's as a receiver
abbrev pub settled_by : Role → Disposition → ℕ → Option Claim → Option Claim
settled_by Sender x id v = if x.settled && in_range x.first (last_of x) id then None else v
settled_by Receiver x id v = v

abbrev pub answered_by : Role → Disposition → ℕ → Option Claim → Option Claim
answered_by Sender x id v = v
answered_by Receiver x id v = if x.settled && in_range x.first (last_of x) id then None else v

abbrev pub claim_in : Perf → (ℕ → Option PeerHandle) → (ℕ → Option Link) → ℕ → Option Claim → Option Claim
claim_in (perf.Transfer x) handles known id v = claimed x (handles x.handle) known id v
claim_in (perf.Disposition x) handles known id v = settled_by x.role x id v
claim_in _ handles known id v = v

abbrev pub claim_by : Item → ℕ → (ℕ → Option PeerChannel) → (ℕ → Option PeerHandle) → (ℕ → Option Link) → ℕ → Option Claim → Option Claim
claim_by (item.Frame sasl channel body payload) o channels handles known id v =
    if sasl then v else (if maps (channels channel) o then claim_in body handles known id v else v)
claim_by _ o channels handles known id v = v

abbrev pub claim_at : Event → ℕ → ℕ → (ℕ → Option PeerChannel) → (ℕ → Option PeerHandle) → (ℕ → Option Link) → ℕ → Option Claim → Option Claim
claim_at (event.Item d i) c o channels handles known id v = if d.0 == c then claim_by i o channels handles known id v else v
claim_at (event.Down d) c o channels handles known id v = if d.0 == c then None else v
claim_at _ c o channels handles known id v = v

-- items that the router puts out: outcomes, and the ends of links
abbrev pub unless_ended : Perf → ℕ → ℕ → Option Claim → Option Claim
unless_ended body own o None = None
unless_ended body own o (Some v) = if ends_handle_in body own o v.handle then None else Some v

abbrev pub claim_after_in : Perf → ℕ → ℕ → ℕ → Option Claim → Option Claim
claim_after_in (perf.Disposition x) own o id v = if own == o then answered_by x.role x id v else v
claim_after_in body own o id v = unless_ended body own o v

abbrev pub claim_after : Item → ℕ → ℕ → Option Claim → Option Claim
claim_after (item.Frame sasl own body payload) o id v = claim_after_in body own o id v
claim_after _ o id v = v

-- the delivery's message is bound to a consumer
abbrev pub bound_claim : Claim → Claim
bound_claim v = record v { unbound = false }

abbrev pub bind_claim : Option Origin → ℕ → ℕ → ℕ → Option Claim → Option Claim
bind_claim None c o id v = v
bind_claim (Some p) c o id v = if stands_on p.link c o && (p.id == id) then option_map bound_claim v else v

-- a peer's claim to a delivery-id, on the session with this router's channel
abbrev pub claims : Trace → ℕ → ℕ → ℕ → Option Claim
claims [] c o id = None
claims (Did s ∷ t) c o id = claim_at s.event c o (theirs t c) (their_handle t c o) (link t c o) id (claims t c o id)
claims (Out d i ∷ t) c o id = if d == c then claim_after i o id (claims t c o id) else claims t c o id
claims (Took d n ∷ t) c o id = claims t c o id
claims (Bound b ∷ t) c o id = bind_claim (origin_of b.kind) c o id (claims t c o id)
claims (Booked acts full ∷ t) c o id = claims t c o id
claims (Routed passage ∷ t) c o id = claims t c o id
claims (Began g ∷ t) c o id = None
