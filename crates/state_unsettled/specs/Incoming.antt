-- When the table of claims agrees with a trace.
use Rattle.std.specs.Prelude.{◌≡◌, ◌<◌, ◌^◌, ℕ, Bool, true, false, ◌==◌, ◌&&◌, nat_lt, if◌then◌else◌, List, [], ◌∷◌, Option, Some, None}
use Rattle.amqp_model.specs.declared.perf.Transfer.{Transfer}
use Rattle.amqp_model.specs.declared.perf.Disposition.{Disposition}
use Rattle.amqp_model.specs.declared.perf.Perf.{Perf}
use Rattle.amqp_model.specs.declared.perf.Perf.TheVariants as perf
use Rattle.amqp_model.specs.declared.perf.Role.{Role}
use Rattle.amqp_model.specs.declared.perf.Role.TheVariants.{Sender, Receiver}
use Rattle.amqp_model.specs.declared.item.Item.{Item}
use Rattle.amqp_model.specs.declared.item.Item.TheVariants as item
use Rattle.amqp_session.specs.Ranges.{in_range}
use Rattle.amqp_link.specs.Deliveries.{Frame, delivery}
use Rattle.amqp_link.specs.Receiving.{middle, is_beyond}
use Rattle.router_trace.specs.declared.handle.PeerHandle.{PeerHandle}
use Rattle.router_trace.specs.declared.handle.PeerHandle.TheVariants.{Mapped}
use Rattle.router_trace.specs.Links.{Link, Happened, sends, receives}
use Rattle.router_trace.specs.Deliveries.{last_of}
use Rattle.router_trace.specs.Trace.{Trace}
use Rattle.router_trace.specs.Claims.{Claim, claims, claimed_first, claimed_later, is_named}
use Rattle.router_trace.specs.Settling.{is_unbound_on, is_of_link, is_tagged_on}
use Rattle.state_unsettled.specs.declared.incoming.IncomingDeliveries.{IncomingDeliveries}
use Rattle.state_unsettled.specs.declared.by_link.Stand.{Stand}
use Rattle.state_unsettled.specs.declared.incoming.Middle.{Middle}
use Rattle.state_unsettled.specs.declared.incoming.Receiving.{Receiving}
use Rattle.state_unsettled.specs.Standing.{count_at, is_marked}
use Rattle.router_trace.specs.Counting.{IsCount}
use Rattle.state_collections.specs.Ids.{at_id}

-- ids have 32 bits
abbrev pub IsSmall : ℕ → Option Claim → Type 0
IsSmall id None = Unit {0}
IsSmall id (Some c) = id < 2 ^ 32

abbrev pub AreSmall : (ℕ → ℕ → ℕ → Option Claim) → Type 0
AreSmall known = (c o id : ℕ) → IsSmall id (known c o id)

-- the ids of all claims are kept by link, and unbound ones are counted
abbrev pub unbound_handle : Option Claim → Option ℕ
unbound_handle None = None
unbound_handle (Some v) = if v.unbound then Some v.handle else None

abbrev pub stand_of : Option Claim → Option Stand
stand_of None = None
stand_of (Some v) = Some (record { handle = v.handle; unbound = v.unbound })

pub record AreMarked (s : IncomingDeliveries) : Type 0 where
  pub unbound : (c o h : ℕ) → IsCount (λ id. is_unbound_on h (at_id s.ids c o id)) (count_at s.by_link c o h)
  pub by_link : (c o h id : ℕ) → is_marked s.by_link c o h id ≡ is_of_link h (at_id s.ids c o id)

pub record IncomingFit (s : IncomingDeliveries) (t : Trace) : Type 0 where
  pub ids : (c o id : ℕ) → at_id s.ids c o id ≡ claims t c o id
  pub small : AreSmall (at_id s.ids)
  pub marked : AreMarked s

-- what a transfer does to the claim of an id, on the link that it names
abbrev pub claimed_by_middle : ℕ → Transfer → Bool → Option Middle → ℕ → Option Claim → Option Claim
claimed_by_middle h x beyond None id v = claimed_first h x beyond id v
claimed_by_middle h x beyond (Some m) id v = if is_named m.id id then claimed_later h x v else v

abbrev pub claimed_at : Transfer → Option Receiving → ℕ → Option Claim → Option Claim
claimed_at x None id v = v
claimed_at x (Some r) id v = claimed_by_middle r.handle x r.beyond r.middle id v

-- a claim is on this link of the router, or on any
abbrev pub is_on : Option Claim → Option ℕ → Bool
is_on None link = false
is_on (Some v) None = true
is_on (Some v) (Some h) = v.handle == h

abbrev pub unless_on : Option ℕ → Option Claim → Option Claim
unless_on link v = if is_on v link then None else v

-- the same at a place, by whether it is on the connection, on the session, and among the ids
abbrev pub let_go_at : Bool → Bool → Bool → Option ℕ → Option Claim → Option Claim
let_go_at here own among link v = if here then (if own then (if among then unless_on link v else v) else v) else v

-- what a disposition does if it comes from an end with this role
abbrev pub settled_by_role : Role → Role → Disposition → ℕ → Option Claim → Option Claim
settled_by_role Sender Sender x id v = if x.settled && in_range x.first (last_of x) id then None else v
settled_by_role Receiver Receiver x id v = if x.settled && in_range x.first (last_of x) id then None else v
settled_by_role _ _ x id v = v

abbrev pub settled_at : Role → Disposition → ℕ → Option Claim → Option Claim
settled_at r x id v = settled_by_role r x.role x id v

-- what a performative of the peer does, on the link that it names
abbrev pub heard_claim : Perf → Option Receiving → ℕ → Option Claim → Option Claim
heard_claim (perf.Transfer x) found id v = claimed_at x found id v
heard_claim (perf.Disposition x) found id v = settled_at Sender x id v
heard_claim _ found id v = v

-- the link on which the peer is the sender and that its transfer names
abbrev pub middle_of : List Frame → Option Middle
middle_of [] = None
middle_of (f ∷ fs) = Some (record { id = (delivery f fs).id })

abbrev pub receiving_of : ℕ → Happened → Option Receiving
receiving_of h (sends list) = None
receiving_of h (receives list) = Some (record { handle = h; middle = middle_of (middle list); beyond = is_beyond list })

abbrev pub receiving_on : ℕ → Option Link → Option Receiving
receiving_on h None = None
receiving_on h (Some l) = receiving_of h l.happened

abbrev pub receiving_at : Option PeerHandle → (ℕ → Option Link) → Option Receiving
receiving_at (Some (Mapped h)) known = receiving_on h (known h)
receiving_at _ known = None

abbrev pub found_in : Perf → (ℕ → Option PeerHandle) → (ℕ → Option Link) → Option Receiving
found_in (perf.Transfer x) handles known = receiving_at (handles x.handle) known
found_in _ handles known = None

abbrev pub found_by : Item → (ℕ → Option PeerHandle) → (ℕ → Option Link) → Option Receiving
found_by (item.Frame sasl channel body payload) handles known = found_in body handles known
found_by _ handles known = None

-- an id is tagged so, on a link
abbrev pub tagged_at : ℕ → List ℕ → (ℕ → Option Claim) → ℕ → Bool
tagged_at h tag known id = nat_lt id 4294967296 && is_tagged_on h tag (known id)

-- whether any of these ids passes: then one id does, and else none of them
abbrev pub TellsAny : (ℕ → Bool) → (ℕ → Bool) → Bool → Type 0
TellsAny among passes true = (id : ℕ) × (passes id ≡ true)
TellsAny among passes false = (id : ℕ) → among id ≡ true → passes id ≡ false

-- none of them below this id passes, or none of all
abbrev pub NoneBelow : (ℕ → Bool) → (ℕ → Bool) → Option ℕ → Type 0
NoneBelow among passes None = (id : ℕ) → among id ≡ true → passes id ≡ false
NoneBelow among passes (Some k) = (id : ℕ) → id < k → among id ≡ true → passes id ≡ false
