-- Links in a trace (AMQP 1.0 part 2, section 2.6): the peer's attach and the router's answer make a link, on a handle of the
-- router and one of the peer. A link that the router takes has an address at the router's own terminus; one that it refuses has none.
use Rattle.std.specs.Prelude.{ℕ, zero, suc, ◌+◌, Bool, true, false, not, ◌&&◌, ◌==◌, nat_le, if◌then◌else◌, is_none, is_some, List, ◌∷◌, [], length, Option, Some, None, option_map, unwrap_or}
use Rattle.std.specs.BTreeMap.{is_at}
use Rattle.arrayvec.specs.ArrayVec.{ArrayVec}
use Rattle.amqp_model.specs.declared.perf.Attach.{Attach}
use Rattle.amqp_model.specs.declared.perf.Begin.{Begin}
use Rattle.amqp_model.specs.declared.perf.Flow.{Flow}
use Rattle.amqp_model.specs.declared.perf.Perf.{Perf}
use Rattle.amqp_model.specs.declared.perf.Perf.TheVariants as perf
use Rattle.amqp_model.specs.declared.perf.Role.{Role}
use Rattle.amqp_model.specs.declared.perf.Role.TheVariants.{Sender, Receiver}
use Rattle.amqp_model.specs.declared.perf.Transfer.{Transfer}
use Rattle.amqp_model.specs.declared.state.UnsettledDelivery.{UnsettledDelivery}
use Rattle.amqp_model.specs.declared.terminus.Address.{Address}
use Rattle.amqp_model.specs.declared.terminus.Address.TheVariants as address
use Rattle.amqp_model.specs.declared.terminus.SourceTerminus.{SourceTerminus}
use Rattle.amqp_model.specs.declared.terminus.SourceTerminus.TheVariants as source
use Rattle.amqp_model.specs.declared.terminus.TargetTerminus.{TargetTerminus}
use Rattle.amqp_model.specs.declared.terminus.TargetTerminus.TheVariants as target
use Rattle.book_model.specs.declared.terminus.LinkKey.{LinkKey}
use Rattle.book_model.specs.declared.terminus.LinkRole.{LinkRole}
use Rattle.book_model.specs.declared.terminus.LinkRole.TheVariants.{Producer, Consumer}
use Rattle.book_model.specs.Keys.{key_cmp}
use Rattle.amqp_model.specs.declared.item.Item.{Item}
use Rattle.amqp_model.specs.declared.item.Item.TheVariants as item
use Rattle.amqp_session.specs.declared.states.BeginState.{BeginState}
use Rattle.amqp_session.specs.Serials.{distance}
use Rattle.amqp_link.specs.Credit as credit
use Rattle.amqp_link.specs.Receiving as receiving
use Rattle.amqp_link.specs.Receiving.{Received}
use Rattle.amqp_link.specs.Deliveries.{Frame, frame}
use Rattle.router_trace.specs.declared.event.Event.{Event}
use Rattle.router_trace.specs.declared.event.Event.TheVariants as event
use Rattle.router_trace.specs.declared.channel.PeerChannel.{PeerChannel}
use Rattle.router_trace.specs.declared.handle.PeerHandle.{PeerHandle}
use Rattle.router_trace.specs.declared.handle.PeerHandle.TheVariants.{Mapped, Detaching}
use Rattle.router_trace.specs.declared.handle.Asked.{Asked}
use Rattle.router_trace.specs.declared.handle.Attachment.{Attachment}
use Rattle.router_trace.specs.declared.handle.LinkAt.{LinkAt}
use Rattle.router_trace.specs.declared.handle.LinkAt.TheVariants as found
use Rattle.router_trace.specs.Trace.{Did, Out, Took, Bound, Booked, Routed, Began, Trace}
use Rattle.router_trace.specs.Sessions.{maps, unless_close, answers_begin, awaited, theirs}
use Rattle.router_trace.specs.Peers.{user, container, container_id, Container}
use Rattle.router_trace.specs.Durable.{is_durable}
use Rattle.router_trace.specs.Tags.{tags_of, common, without_tag}

-- What the last attach received on a connection asks for; none if the connection is closed or lost. Of a sender's the tags in its map are kept.
abbrev pub tags_by : Role → Option (List UnsettledDelivery) → List (ArrayVec ℕ)
tags_by Sender theirs = tags_of theirs
tags_by Receiver theirs = []

abbrev pub asked_of : Attach → Asked
asked_of a = record { handle = a.handle; initial = unwrap_or a.initial_delivery_count 0; tags = tags_by a.role a.unsettled; incomplete = a.incomplete_unsettled }

abbrev pub asked_in : Perf → Option Asked → Option Asked
asked_in (perf.Attach a) last = Some (asked_of a)
asked_in _ last = last

abbrev pub asked_by : Item → Option Asked → Option Asked
asked_by (item.Frame sasl channel body payload) last = if sasl then last else asked_in body last
asked_by _ last = last

abbrev pub asked_at : Event → ℕ → Option Asked → Option Asked
asked_at (event.Item d i) c last = if d.0 == c then asked_by i last else last
asked_at (event.Down d) c last = if d.0 == c then None else last
asked_at _ c last = last

abbrev pub asked : Trace → ℕ → Option Asked
asked [] c = None
asked (Did s ∷ t) c = asked_at s.event c (asked t c)
asked (Out d i ∷ t) c = if d == c then unless_close i (asked t c) else asked t c
asked (Took d n ∷ t) c = asked t c
asked (Bound b ∷ t) c = asked t c
asked (Booked acts full ∷ t) c = asked t c
asked (Routed passage ∷ t) c = asked t c
asked (Began g ∷ t) c = None

-- What an item of the router ends: the handle of a detach on this session, or all handles of the session or the connection.
abbrev pub ends_handle_in : Perf → ℕ → ℕ → ℕ → Bool
ends_handle_in (perf.Detach x) own o h = (own == o) && (x.handle == h)
ends_handle_in (perf.End x) own o h = own == o
ends_handle_in (perf.Close x) own o h = true
ends_handle_in _ own o h = false

abbrev pub ends_handle : Item → ℕ → ℕ → Bool
ends_handle (item.Frame sasl own body payload) o h = ends_handle_in body own o h
ends_handle _ o h = false

abbrev pub is_lost : Event → ℕ → Bool
is_lost (event.Down d) c = d.0 == c
is_lost _ c = false

-- The peer's handle whose attach is answered by the router's attach on this handle.
abbrev pub handle_asked : Option Asked → Option ℕ
handle_asked None = None
handle_asked (Some a) = Some a.handle

abbrev pub answers_in : Perf → ℕ → ℕ → ℕ → Option Asked → Option ℕ → Option ℕ
answers_in (perf.Attach a) own o h last p = if (own == o) && (a.handle == h) then handle_asked last else p
answers_in body own o h last p = if ends_handle_in body own o h then None else p

abbrev pub answers_by : Item → ℕ → ℕ → Option Asked → Option ℕ → Option ℕ
answers_by (item.Frame sasl own body payload) o h last p = answers_in body own o h last p
answers_by _ o h last p = p

abbrev pub answered_handle : Trace → ℕ → ℕ → ℕ → Option ℕ
answered_handle [] c o h = None
answered_handle (Did s ∷ t) c o h = if is_lost s.event c then None else answered_handle t c o h
answered_handle (Out d i ∷ t) c o h = if d == c then answers_by i o h (asked t c) (answered_handle t c o h) else answered_handle t c o h
answered_handle (Took d n ∷ t) c o h = answered_handle t c o h
answered_handle (Bound b ∷ t) c o h = answered_handle t c o h
answered_handle (Booked acts full ∷ t) c o h = answered_handle t c o h
answered_handle (Routed passage ∷ t) c o h = answered_handle t c o h
answered_handle (Began g ∷ t) c o h = None

-- What a peer's handle stands for, on the session with this router's channel: a link, on a handle of the router; one that the
-- router detached, until the peer's detach; or nothing. A detach on a handle on which nothing was attached answers the last attach
-- received.
abbrev pub is_handle : Option ℕ → ℕ → Bool
is_handle None p = false
is_handle (Some handle) p = handle == p

abbrev pub detached : Option ℕ → Option Asked → ℕ → Option PeerHandle → Option PeerHandle
detached None last p v = if is_handle (handle_asked last) p then Some Detaching else v
detached (Some handle) last p v = if handle == p then option_map (λ w. Detaching) v else v

abbrev pub their_handle_in : Perf → ℕ → ℕ → ℕ → (ℕ → Option ℕ) → Option Asked → Option PeerHandle → Option PeerHandle
their_handle_in (perf.Attach a) own o p known last v = if (own == o) && is_handle (handle_asked last) p then Some (Mapped a.handle) else v
their_handle_in (perf.Detach x) own o p known last v = if own == o then detached (known x.handle) last p v else v
their_handle_in (perf.End x) own o p known last v = if own == o then None else v
their_handle_in (perf.Close x) own o p known last v = None
their_handle_in _ own o p known last v = v

abbrev pub their_handle_after : Item → ℕ → ℕ → (ℕ → Option ℕ) → Option Asked → Option PeerHandle → Option PeerHandle
their_handle_after (item.Frame sasl own body payload) o p known last v = their_handle_in body own o p known last v
their_handle_after _ o p known last v = v

abbrev pub after_their_detach : Perf → ℕ → Option PeerHandle → Option PeerHandle
after_their_detach (perf.Detach x) p v = if x.handle == p then None else v
after_their_detach _ p v = v

abbrev pub their_handle_by : Item → ℕ → ℕ → (ℕ → Option PeerChannel) → Option PeerHandle → Option PeerHandle
their_handle_by (item.Frame sasl channel body payload) o p known v =
    if sasl then v else (if maps (known channel) o then after_their_detach body p v else v)
their_handle_by _ o p known v = v

abbrev pub their_handle_at : Event → ℕ → ℕ → ℕ → (ℕ → Option PeerChannel) → Option PeerHandle → Option PeerHandle
their_handle_at (event.Item d i) c o p known v = if d.0 == c then their_handle_by i o p known v else v
their_handle_at (event.Down d) c o p known v = if d.0 == c then None else v
their_handle_at _ c o p known v = v

abbrev pub their_handle : Trace → ℕ → ℕ → ℕ → Option PeerHandle
their_handle [] c o p = None
their_handle (Did s ∷ t) c o p = their_handle_at s.event c o p (theirs t c) (their_handle t c o p)
their_handle (Out d i ∷ t) c o p =
    if d == c then their_handle_after i o p (answered_handle t c o) (asked t c) (their_handle t c o p) else their_handle t c o p
their_handle (Took d n ∷ t) c o p = their_handle t c o p
their_handle (Bound b ∷ t) c o p = their_handle t c o p
their_handle (Booked acts full ∷ t) c o p = their_handle t c o p
their_handle (Routed passage ∷ t) c o p = their_handle t c o p
their_handle (Began g ∷ t) c o p = None

-- The address at the router's own terminus of its attach: the source's if it is the sender, the target's if it is the receiver.
abbrev pub text_of : Option Address → Option (List ℕ)
text_of (Some (address.Text a)) = Some a
text_of _ = None

abbrev pub source_address : Option SourceTerminus → Option (List ℕ)
source_address (Some (source.Source s)) = text_of s.address
source_address _ = None

abbrev pub target_address : Option TargetTerminus → Option (List ℕ)
target_address (Some (target.Target x)) = text_of x.address
target_address _ = None

abbrev pub address_by : Role → Attach → Option (List ℕ)
address_by Sender a = source_address a.source
address_by Receiver a = target_address a.target

-- Attachments are numbered by the router's attaches that have an address: each number is one more than the last.
abbrev pub is_taken_in : Perf → Bool
is_taken_in (perf.Attach a) = is_some (address_by a.role a)
is_taken_in _ = false

abbrev pub is_taken : Item → Bool
is_taken (item.Frame sasl own body payload) = is_taken_in body
is_taken _ = false

abbrev pub attachments : Trace → ℕ
attachments [] = 0
attachments (Did s ∷ t) = attachments t
attachments (Out d i ∷ t) = if is_taken i then attachments t + 1 else attachments t
attachments (Took d n ∷ t) = attachments t
attachments (Bound b ∷ t) = attachments t
attachments (Booked acts full ∷ t) = attachments t
attachments (Routed passage ∷ t) = attachments t
attachments (Began g ∷ t) = 0

-- A link is identified by its user, container and name, and by the direction of its deliveries.
abbrev pub way_of : Role → LinkRole
way_of Sender = Consumer
way_of Receiver = Producer

abbrev pub key_of : Option (List ℕ) → Option Container → Attach → LinkKey
key_of user told a = record { role = way_of a.role; user = unwrap_or user []; container = container_id told; name = a.name }

-- What happened on a link, newest first: the router is the sender, or the peer is.
pub data Happened : Type 0 where
  sends : (list : credit.Link) → Happened
  receives : (list : Received) → Happened

pub record Link : Type 0 where
  pub number : ℕ
  pub key : LinkKey
  pub address : List ℕ
  pub durable : Bool
  pub happened : Happened
  -- the router has begun a delivery on it, of which more frames remain to be sent
  pub going_on : Bool
  -- the peer's last flow asks for a drain; it is not yet answered
  pub drains : Bool
  pub owes_drain : Bool
  -- the peer is a sender: the tags that it may resume and has not resumed yet, and how many credits it is still to be granted for them
  pub due : List (ArrayVec ℕ)
  pub owes_due : ℕ
  -- the peer's attach says that its unsettled map is incomplete
  pub incomplete : Bool

-- the start of a link, by its attach
abbrev pub begins : Role → Option ℕ → ℕ → Happened
begins Sender initial theirs = sends (credit.Attached (unwrap_or initial 0) ∷ [])
begins Receiver initial theirs = receives (receiving.TheirAttach theirs ∷ [])

abbrev pub initial_of : Option Asked → ℕ
initial_of None = 0
initial_of (Some a) = a.initial

-- A sender may resume what stands in its map and in the router's (2.6.13).
abbrev pub due_in : Option Asked → Option (List UnsettledDelivery) → List (ArrayVec ℕ)
due_in None ours = []
due_in (Some a) ours = common a.tags (tags_of ours)

abbrev pub is_incomplete : Option Asked → Bool
is_incomplete None = false
is_incomplete (Some a) = a.incomplete

abbrev pub begun_link : ℕ → LinkKey → Attach → Option Asked → List ℕ → Link
begun_link number key a last address = record {
  number = number;
  key = key;
  address = address;
  durable = is_durable a.role a;
  happened = begins a.role a.initial_delivery_count (initial_of last);
  going_on = false;
  drains = false;
  owes_drain = false;
  due = due_in last a.unsettled;
  owes_due = length (due_in last a.unsettled);
  incomplete = is_incomplete last;
}

-- A flow of the peer: on a link on which the router sends, the credit that it grants; on another the delivery-count that it has, unless
-- that is less than the peer's own or ahead of it by more than the unused credit.
abbrev pub with_grant : Flow → Option ℕ → credit.Link → credit.Link
with_grant f None h = h
with_grant f (Some k) h = credit.Granted f.delivery_count k ∷ h

abbrev pub with_count : Option ℕ → Received → Received
with_count None h = h
with_count (Some n) h = if nat_le (distance (receiving.delivery_count h) n) (receiving.unused h) then receiving.TheirCount n ∷ h else h

abbrev pub flowed_to : Flow → Happened → Happened
flowed_to f (sends h) = sends (with_grant f f.link_credit h)
flowed_to f (receives h) = receives (with_count f.delivery_count h)

abbrev pub after_their_flow : Flow → Link → Link
after_their_flow f l = record l { happened = flowed_to f l.happened; drains = f.drain; owes_drain = f.drain }

-- a transfer of the peer, with its payload; the first frame of a resumed delivery takes its tag away from those that are due
abbrev pub came_to : Transfer → List ℕ → Happened → Happened
came_to x payload (sends h) = sends h
came_to x payload (receives h) = receives (receiving.behind (frame x payload) h)

abbrev pub without : Option (ArrayVec ℕ) → List (ArrayVec ℕ) → List (ArrayVec ℕ)
without None due = due
without (Some tag) due = without_tag tag.items due

abbrev pub due_first : Transfer → List Frame → List (ArrayVec ℕ) → List (ArrayVec ℕ)
due_first x [] due = if x.resume then without x.delivery_tag due else due
due_first x (f ∷ fs) due = due

abbrev pub due_after : Transfer → Happened → List (ArrayVec ℕ) → List (ArrayVec ℕ)
due_after x (sends h) due = due
due_after x (receives h) due = due_first x (receiving.middle h) due

abbrev pub after_their_transfer : Transfer → List ℕ → Link → Link
after_their_transfer x payload l = record l { happened = came_to x payload l.happened; due = due_after x l.happened l.due }

-- a flow of the router: as a sender its delivery-count, as a receiver the credit that it grants, with that which it owes for what is due
abbrev pub with_our_count : Option ℕ → credit.Link → credit.Link
with_our_count None h = h
with_our_count (Some n) h = credit.Counted n ∷ h

abbrev pub with_our_grant : Option ℕ → Option ℕ → Received → Received
with_our_grant (Some n) (Some k) h = receiving.OurGrant (record { count = n; credit = k }) ∷ h
with_our_grant _ _ h = h

abbrev pub flowed_from : Flow → Happened → Happened
flowed_from f (sends h) = sends (with_our_count f.delivery_count h)
flowed_from f (receives h) = receives (with_our_grant f.delivery_count f.link_credit h)

abbrev pub after_our_flow : Flow → Link → Link
after_our_flow f l = record l { happened = flowed_from f l.happened; owes_drain = l.owes_drain && not f.drain; owes_due = 0 }

-- a transfer of the router; it starts a delivery unless one is going on
abbrev pub started : Bool → Happened → Happened
started going_on (sends h) = sends (if going_on then h else credit.Started ∷ h)
started going_on (receives h) = receives h

abbrev pub after_our_transfer : Transfer → Link → Link
after_our_transfer x l = record l { happened = started l.going_on l.happened; going_on = x.more && not x.aborted }

-- The link on a router's handle, of the session with this router's channel; none if none is attached.
abbrev pub attached : ℕ → LinkKey → Attach → Option Asked → Option (List ℕ) → Option Link
attached number key a last None = None
attached number key a last (Some address) = Some (begun_link number key a last address)

abbrev pub link_in : Perf → ℕ → ℕ → ℕ → ℕ → (Attach → LinkKey) → Option Asked → Option Link → Option Link
link_in (perf.Attach a) own o h number key last v =
    if (own == o) && (a.handle == h) then attached number (key a) a last (address_by a.role a) else v
link_in (perf.Flow f) own o h number key last v = if (own == o) && is_handle f.handle h then option_map (after_our_flow f) v else v
link_in (perf.Transfer x) own o h number key last v = if (own == o) && (x.handle == h) then option_map (after_our_transfer x) v else v
link_in body own o h number key last v = if ends_handle_in body own o h then None else v

abbrev pub link_after : Item → ℕ → ℕ → ℕ → (Attach → LinkKey) → Option Asked → Option Link → Option Link
link_after (item.Frame sasl own body payload) o h number key last v = link_in body own o h number key last v
link_after _ o h number key last v = v

-- a frame of the peer names this handle of the router
abbrev pub names : Option PeerHandle → ℕ → Bool
names (Some (Mapped handle)) h = handle == h
names _ h = false

abbrev pub names_by : Option ℕ → (ℕ → Option PeerHandle) → ℕ → Bool
names_by None known h = false
names_by (Some p) known h = names (known p) h

abbrev pub heard_link : Perf → List ℕ → ℕ → (ℕ → Option PeerHandle) → Option Link → Option Link
heard_link (perf.Flow f) payload h known v = if names_by f.handle known h then option_map (after_their_flow f) v else v
heard_link (perf.Transfer x) payload h known v = if names (known x.handle) h then option_map (after_their_transfer x payload) v else v
heard_link _ payload h known v = v

abbrev pub link_by : Item → ℕ → ℕ → (ℕ → Option PeerChannel) → (ℕ → Option PeerHandle) → Option Link → Option Link
link_by (item.Frame sasl channel body payload) o h channels handles v =
    if sasl then v else (if maps (channels channel) o then heard_link body payload h handles v else v)
link_by _ o h channels handles v = v

abbrev pub link_at : Event → ℕ → ℕ → ℕ → (ℕ → Option PeerChannel) → (ℕ → Option PeerHandle) → Option Link → Option Link
link_at (event.Item d i) c o h channels handles v = if d.0 == c then link_by i o h channels handles v else v
link_at (event.Down d) c o h channels handles v = if d.0 == c then None else v
link_at _ c o h channels handles v = v

-- the link key of the router's attach on a connection
abbrev pub key_at : Trace → ℕ → Attach → LinkKey
key_at t c a = key_of (user t c) (container t c) a

abbrev pub link : Trace → ℕ → ℕ → ℕ → Option Link
link [] c o h = None
link (Did s ∷ t) c o h = link_at s.event c o h (theirs t c) (their_handle t c o) (link t c o h)
link (Out d i ∷ t) c o h =
    if d == c then link_after i o h (attachments t + 1) (key_at t c) (asked t c) (link t c o h) else link t c o h
link (Took d n ∷ t) c o h = link t c o h
link (Bound b ∷ t) c o h = link t c o h
link (Booked acts full ∷ t) c o h = link t c o h
link (Routed passage ∷ t) c o h = link t c o h
link (Began g ∷ t) c o h = None

-- An attachment still has its link.
abbrev pub has_number : ℕ → Option Link → Bool
has_number n None = false
has_number n (Some l) = l.number == n

abbrev pub is_attached : Trace → Attachment → Bool
is_attached t a = has_number a.number (link t a.conn.0 a.channel a.handle)

abbrev pub if_attached : Trace → Option Attachment → Option Attachment
if_attached t None = None
if_attached t (Some a) = if is_attached t a then Some a else None

-- the last attachment with a key, and the attachment with a number
abbrev pub same_key : LinkKey → LinkKey → Bool
same_key k l = is_at (key_cmp k) l

abbrev pub newest_in : Perf → ℕ → ℕ → ℕ → (Attach → Bool) → Option Attachment → Option Attachment
newest_in (perf.Attach a) own c number passes v =
    if is_some (address_by a.role a) && passes a then Some (record { number = number; conn = record { 0 = c }; channel = own; handle = a.handle }) else v
newest_in _ own c number passes v = v

abbrev pub newest_by : Item → ℕ → ℕ → (Attach → Bool) → Option Attachment → Option Attachment
newest_by (item.Frame sasl own body payload) c number passes v = newest_in body own c number passes v
newest_by _ c number passes v = v

abbrev pub last_of_key : Trace → LinkKey → Option Attachment
last_of_key [] k = None
last_of_key (Did s ∷ t) k = last_of_key t k
last_of_key (Out d i ∷ t) k = newest_by i d (attachments t + 1) (λ a. same_key (key_at t d a) k) (last_of_key t k)
last_of_key (Took d n ∷ t) k = last_of_key t k
last_of_key (Bound b ∷ t) k = last_of_key t k
last_of_key (Booked acts full ∷ t) k = last_of_key t k
last_of_key (Routed passage ∷ t) k = last_of_key t k
last_of_key (Began g ∷ t) k = None

abbrev pub numbered : Trace → ℕ → Option Attachment
numbered [] n = None
numbered (Did s ∷ t) n = numbered t n
numbered (Out d i ∷ t) n = newest_by i d (attachments t + 1) (λ a. attachments t + 1 == n) (numbered t n)
numbered (Took d k ∷ t) n = numbered t n
numbered (Bound b ∷ t) n = numbered t n
numbered (Booked acts full ∷ t) n = numbered t n
numbered (Routed passage ∷ t) n = numbered t n
numbered (Began g ∷ t) n = None

-- the link with a key, and the link with a number, while they are attached
abbrev pub holder : Trace → LinkKey → Option Attachment
holder t k = if_attached t (last_of_key t k)

-- a durable link is attached with this key
abbrev pub durable_key : Option Link → Option LinkKey
durable_key None = None
durable_key (Some l) = if l.durable then Some l.key else None

abbrev pub is_durable_at : Trace → Option Attachment → Bool
is_durable_at t None = false
is_durable_at t (Some a) = is_some (durable_key (link t a.conn.0 a.channel a.handle))

abbrev pub holds_durable : Trace → LinkKey → Bool
holds_durable t k = is_durable_at t (holder t k)

abbrev pub place_of : Trace → ℕ → Option Attachment
place_of t n = if_attached t (numbered t n)

-- What a peer's handle stands for: nothing, a link that the router detached, or a link on a handle of the router.
pub data LinkPlace : Type 0 where
  nowhere : LinkPlace
  detaching : LinkPlace
  on : (handle : ℕ) (link : Link) → LinkPlace

abbrev pub on_link : ℕ → Option Link → LinkPlace
on_link h None = nowhere
on_link h (Some l) = on h l

abbrev pub link_place_by : Option PeerHandle → (ℕ → Option Link) → LinkPlace
link_place_by None known = nowhere
link_place_by (Some Detaching) known = detaching
link_place_by (Some (Mapped h)) known = on_link h (known h)

abbrev pub link_place : Trace → ℕ → ℕ → ℕ → LinkPlace
link_place t c o p = link_place_by (their_handle t c o p) (link t c o)

-- the same with the link's credit state alone
abbrev pub found_on : ℕ → Bool → Happened → LinkAt
found_on h durable (sends list) = found.Sends h (record { initial = credit.initial list; count = credit.count list; granted = credit.granted list })
found_on h durable (receives list) = found.Receives h (receiving.delivery_count list) (receiving.unused list) durable

abbrev pub found_link : LinkPlace → LinkAt
found_link nowhere = found.Nowhere
found_link detaching = found.Detaching
found_link (on h l) = found_on h l.durable l.happened

-- The highest handle that the peer accepts on the session with this router's channel: the handle-max of its begin (2.7.2).
abbrev pub handle_max_in : Perf → Option ℕ → Option ℕ
handle_max_in (perf.Begin b) last = Some b.handle_max
handle_max_in _ last = last

abbrev pub handle_max_by : Item → Option ℕ → Option ℕ
handle_max_by (item.Frame sasl channel body payload) last = if sasl then last else handle_max_in body last
handle_max_by _ last = last

abbrev pub handle_max_at : Event → ℕ → Option ℕ → Option ℕ
handle_max_at (event.Item d i) c last = if d.0 == c then handle_max_by i last else last
handle_max_at (event.Down d) c last = if d.0 == c then None else last
handle_max_at _ c last = last

abbrev pub told_handle_max : Trace → ℕ → Option ℕ
told_handle_max [] c = None
told_handle_max (Did s ∷ t) c = handle_max_at s.event c (told_handle_max t c)
told_handle_max (Out d i ∷ t) c = if d == c then unless_close i (told_handle_max t c) else told_handle_max t c
told_handle_max (Took d n ∷ t) c = told_handle_max t c
told_handle_max (Bound b ∷ t) c = told_handle_max t c
told_handle_max (Booked acts full ∷ t) c = told_handle_max t c
told_handle_max (Routed passage ∷ t) c = told_handle_max t c
told_handle_max (Began g ∷ t) c = None

abbrev pub unless_awaiting : Begin → Option ℕ → Option ℕ
unless_awaiting b told = if is_none b.remote_channel then None else told

abbrev pub most_in : Perf → ℕ → ℕ → Option ℕ → Option ℕ → Option ℕ
most_in (perf.Begin b) own o told most = if own == o then unless_awaiting b told else most
most_in (perf.End x) own o told most = if own == o then None else most
most_in (perf.Close x) own o told most = None
most_in _ own o told most = most

abbrev pub most_after : Item → ℕ → Option ℕ → Option ℕ → Option ℕ
most_after (item.Frame sasl own body payload) o told most = most_in body own o told most
most_after _ o told most = most

-- The peer's begin tells it where it answers the router's; none is told as long as the router's begin awaits it.
abbrev pub most_by : Item → ℕ → (ℕ → Option PeerChannel) → Option BeginState → Option ℕ → Option ℕ
most_by (item.Frame sasl channel body payload) o known asked most =
    if sasl then most else (if answers_begin body o (known channel) asked then handle_max_in body most else most)
most_by _ o known asked most = most

abbrev pub most_at : Event → ℕ → ℕ → (ℕ → Option PeerChannel) → Option BeginState → Option ℕ → Option ℕ
most_at (event.Item d i) c o known asked most = if d.0 == c then most_by i o known asked most else most
most_at (event.Down d) c o known asked most = if d.0 == c then None else most
most_at _ c o known asked most = most

abbrev pub highest_handle : Trace → ℕ → ℕ → Option ℕ
highest_handle [] c o = None
highest_handle (Did s ∷ t) c o = most_at s.event c o (theirs t c) (awaited t c o) (highest_handle t c o)
highest_handle (Out d i ∷ t) c o = if d == c then most_after i o (told_handle_max t c) (highest_handle t c o) else highest_handle t c o
highest_handle (Took d n ∷ t) c o = highest_handle t c o
highest_handle (Bound b ∷ t) c o = highest_handle t c o
highest_handle (Booked acts full ∷ t) c o = highest_handle t c o
highest_handle (Routed passage ∷ t) c o = highest_handle t c o
highest_handle (Began g ∷ t) c o = None

-- The router's lowest handle on which nothing is attached, of 64 and up to the highest that the peer accepts.
abbrev pub is_free_handle : ℕ → (ℕ → Option ℕ) → ℕ → Bool
is_free_handle most known h = if nat_le h most then is_none (known h) else false

unfoldable pub first_free_below : ℕ → (ℕ → Bool) → ℕ → Option ℕ
first_free_below zero free at = None
first_free_below (suc n) free at = if free at then Some at else first_free_below n free (at + 1)

unfoldable pub free_handle : Trace → ℕ → ℕ → Option ℕ
free_handle t c o = first_free_below 64 (is_free_handle (unwrap_or (highest_handle t c o) 63) (answered_handle t c o)) 0
