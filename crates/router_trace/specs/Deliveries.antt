-- The deliveries that the router passes on, in a trace (AMQP 1.0 part 2, sections 2.6.12, 2.6.14, 2.7.5 and 2.7.6). Each is a message
-- bound to one consumer link. Bindings are numbered from 1 in their order, and a delivery has its binding's number. Its tag is made from its name.
use Rattle.std.specs.Prelude.{ℕ, ◌+◌, ◌-◌, ◌*◌, ◌/◌, ◌%◌, ◌^◌, Bool, true, false, not, ◌&&◌, ◌==◌, if◌then◌else◌, is_none, is_some, List, ◌∷◌, [], length, ◌||◌, Option, Some, None, nat_lt, option_map, option_and_then, unwrap_or}
use Rattle.amqp_model.specs.declared.perf.Disposition.{Disposition}
use Rattle.amqp_model.specs.declared.perf.Perf.{Perf}
use Rattle.amqp_model.specs.declared.perf.Perf.TheVariants as perf
use Rattle.amqp_model.specs.declared.perf.Role.{Role}
use Rattle.amqp_model.specs.declared.perf.Role.TheVariants.{Sender, Receiver}
use Rattle.amqp_model.specs.declared.perf.Transfer.{Transfer}
use Rattle.amqp_model.specs.declared.state.DeliveryState.{DeliveryState}
use Rattle.amqp_model.specs.declared.state.DeliveryState.TheVariants as state
use Rattle.amqp_model.specs.declared.item.Item.{Item}
use Rattle.amqp_model.specs.declared.item.Item.TheVariants as item
use Rattle.amqp_session.specs.Ranges.{in_range}
use Rattle.book_model.specs.declared.act.Act.{Act}
use Rattle.book_model.specs.declared.act.Act.TheVariants.{Decide}
use Rattle.book_model.specs.declared.row.RowNumber.{RowNumber}
use Rattle.router_trace.specs.declared.binding.Binding.{Binding}
use Rattle.router_trace.specs.declared.binding.BindingKind.{BindingKind}
use Rattle.router_trace.specs.declared.binding.BindingKind.TheVariants as kind
use Rattle.router_trace.specs.declared.binding.DeliveryName.{DeliveryName}
use Rattle.router_trace.specs.declared.binding.DeliveryName.TheVariants.{Row, Counter}
use Rattle.router_trace.specs.declared.binding.Holding.{Holding}
use Rattle.router_trace.specs.declared.binding.Holding.TheVariants as holding
use Rattle.router_trace.specs.declared.binding.JoinedTo.{JoinedTo}
use Rattle.router_trace.specs.declared.binding.JoinedTo.TheVariants.{Standing, New}
use Rattle.router_trace.specs.declared.binding.Origin.{Origin}
use Rattle.router_trace.specs.declared.binding.Rank.{Rank}
use Rattle.router_trace.specs.declared.binding.Resumed.{Resumed}
use Rattle.router_trace.specs.declared.binding.Resumed.TheVariants.{Settled, Anew, Kept}
use Rattle.router_trace.specs.declared.binding.TakenUp.{TakenUp}
use Rattle.router_trace.specs.declared.event.Event.{Event}
use Rattle.router_trace.specs.declared.event.Event.TheVariants as event
use Rattle.router_trace.specs.declared.channel.PeerChannel.{PeerChannel}
use Rattle.router_trace.specs.declared.handle.Attachment.{Attachment}
use Rattle.router_trace.specs.Routed.{passed_to, if_passed}
use Rattle.router_trace.specs.Trace.{Did, Out, Took, Bound, Booked, Routed, Began, Trace}
use Rattle.router_trace.specs.Connection.{has}
use Rattle.router_trace.specs.Links.{ends_handle, ends_handle_in, is_lost}
use Rattle.router_trace.specs.Sessions.{maps, theirs}

-- How a producer's link has a row: by a delivery that resumed it, or without one. The link alone stands for its delivery then, with no id that means
-- anything.
abbrev pub link_alone : Attachment → Origin
link_alone a = record { link = a; id = 0 }

abbrev pub link_held : Holding → Attachment
link_held (holding.Resumed p) = p.link
link_held (holding.Unresumed a) = a
link_held (holding.Settled a) = a

abbrev pub resumed_held : Holding → Option Origin
resumed_held (holding.Resumed p) = Some p
resumed_held _ = None

abbrev pub unresumed_held : Holding → Option Origin
unresumed_held (holding.Unresumed a) = Some (link_alone a)
unresumed_held _ = None

abbrev pub settled_held : Holding → Option Origin
settled_held (holding.Settled a) = Some (link_alone a)
settled_held _ = None

-- the producer's delivery of what is bound
abbrev pub origin_of : BindingKind → Option Origin
origin_of (kind.Message origin) = origin
origin_of (kind.TakenUp u) = u.origin
origin_of (kind.Joined q to) = resumed_held q

-- a message that came, and not a row that is bound again
abbrev pub is_message : BindingKind → Bool
is_message (kind.Message origin) = true
is_message _ = false

-- how a producer's link has the delivery which has the row, from now on; and the producer's delivery that is joined to it, if it resumes the row
abbrev pub holds_standing : BindingKind → Option Holding
holds_standing (kind.Joined q Standing) = Some q
holds_standing _ = None

abbrev pub joins_standing : BindingKind → Option Origin
joins_standing k = option_and_then resumed_held (holds_standing k)

-- how many deliveries were bound
abbrev pub bindings : Trace → ℕ
bindings [] = 0
bindings (Did s ∷ t) = bindings t
bindings (Out d i ∷ t) = bindings t
bindings (Took d n ∷ t) = bindings t
bindings (Bound b ∷ t) = if is_none (holds_standing b.kind) then bindings t + 1 else bindings t
bindings (Booked acts full ∷ t) = bindings t
bindings (Routed passage ∷ t) = bindings t
bindings (Began g ∷ t) = 0

-- how many of them are of no row
abbrev pub counters : Trace → ℕ
counters [] = 0
counters (Did s ∷ t) = counters t
counters (Out d i ∷ t) = counters t
counters (Took d n ∷ t) = counters t
counters (Bound b ∷ t) = if is_none b.row then counters t + 1 else counters t
counters (Booked acts full ∷ t) = counters t
counters (Routed passage ∷ t) = counters t
counters (Began g ∷ t) = 0

-- The name of a delivery: a durable one has its row's number, any other the count of those without a row, with it.
abbrev pub name_of : Option RowNumber → ℕ → DeliveryName
name_of None k = Counter k
name_of (Some r) k = Row r

abbrev pub name_in : Trace → Binding → DeliveryName
name_in t b = name_of b.row (counters t + 1)

abbrev pub same_name : DeliveryName → DeliveryName → Bool
same_name (Row q) (Row r) = q.0 == r.0
same_name (Counter j) (Counter k) = j == k
same_name _ _ = false

-- The last row that was admitted: with a message that came, or before the router was opened.
abbrev pub row_or : Option RowNumber → ℕ → ℕ
row_or None last = last
row_or (Some r) last = r.0

abbrev pub last_with : Binding → ℕ → ℕ
last_with b last = if is_message b.kind then row_or b.row last else last

abbrev pub last_row : Trace → ℕ
last_row [] = 0
last_row (Did s ∷ t) = last_row t
last_row (Out d i ∷ t) = last_row t
last_row (Took d n ∷ t) = last_row t
last_row (Bound b ∷ t) = last_with b (last_row t)
last_row (Booked acts full ∷ t) = last_row t
last_row (Routed passage ∷ t) = last_row t
last_row (Began g ∷ t) = g.book.next_row - 1

-- A delivery's place in the order of binding. A row is bound first when it is admitted, and keeps that place when it is bound again: so rows stand by
-- their numbers. A message without a row stands behind the last row that was admitted before it, by its counter.
abbrev pub rank_of : DeliveryName → ℕ → Rank
rank_of (Row r) last = record { row = r.0; counter = 0 }
rank_of (Counter k) last = record { row = last; counter = k }

abbrev pub rank_in : Trace → Binding → Rank
rank_in t b = rank_of (name_in t b) (last_row t)

abbrev pub is_earlier : Rank → Rank → Bool
is_earlier a b = nat_lt a.row b.row || ((a.row == b.row) && nat_lt a.counter b.counter)

-- the number of the last binding with a name
abbrev pub number_named : Trace → DeliveryName → Option ℕ
number_named [] name = None
number_named (Did s ∷ t) name = number_named t name
number_named (Out d i ∷ t) name = number_named t name
number_named (Took d n ∷ t) name = number_named t name
number_named (Bound b ∷ t) name = if is_none (holds_standing b.kind) && same_name (name_in t b) name then Some (bindings t + 1) else number_named t name
number_named (Booked acts full ∷ t) name = number_named t name
number_named (Routed passage ∷ t) name = number_named t name
number_named (Began g ∷ t) name = None

-- A delivery: its name, its place in the order of binding, its consumer's link, the producer's delivery to which its outcome is reported, and its progress.
pub record Delivery : Type 0 where
  pub name : DeliveryName
  pub rank : Rank
  pub link : Attachment
  pub origin : Option Origin
  -- its producer had settled it before it was bound
  pub presettled : Bool
  pub format : ℕ
  pub payload : List ℕ
  -- its id on the consumer's session, once it has started, and how many bytes of it were sent
  pub id : Option ℕ
  pub sent : ℕ
  -- frames of it remain to be sent
  pub going_on : Bool
  -- its outcome, once decided
  pub outcome : Option DeliveryState
  -- the producer's delivery once its outcome was told, as long as the producer has yet to settle it
  pub told : Option Origin
  -- the producer's delivery, if that has a row and the producer settled it before it was decided
  pub early : Option Origin
  -- the producer's link, if it has a row, and that was attached again, and its producer hasn't resumed or settled the row since
  pub owned : Option Origin
  -- it has a row, and its consumer's link is durable; that link was suspended before it was decided
  pub lasting : Bool
  pub suspended : Bool
  -- its link took it up again, and has it still: its first frame says that it is resumed
  pub resumed : Bool

abbrev pub has_row : DeliveryName → Bool
has_row (Row r) = true
has_row (Counter k) = false

-- the producer's delivery, told or not
abbrev pub either_origin : Option Origin → Option Origin → Option Origin
either_origin (Some p) told = Some p
either_origin None told = told

abbrev pub source : Delivery → Option Origin
source d = either_origin d.origin d.told

-- the same, or the link alone that was attached again: the producer hasn't settled it
abbrev pub unforgotten : Delivery → Option Origin
unforgotten d = either_origin (source d) d.owned

-- the same, settled by the producer or not
abbrev pub sender : Delivery → Option Origin
sender d = either_origin (unforgotten d) d.early

-- The producer's delivery, or its link alone, as long as it counts for the producer's link: until the producer has settled it, and, if it has a row, until
-- it is decided too.
abbrev pub holder : Delivery → Option Origin
holder d = if is_none d.outcome then sender d else unforgotten d

-- A row that is taken up again may be decided: it is sent only to settle it then. One that its consumer has is sent as resumed. One of which an incomplete
-- map says nothing is kept on the link and not sent.
abbrev pub outcome_as : Resumed → Option DeliveryState
outcome_as (Settled outcome) = Some outcome
outcome_as _ = None

abbrev pub is_resumed : Resumed → Bool
is_resumed Anew = false
is_resumed Kept = false
is_resumed _ = true

abbrev pub goes_out : Resumed → Bool
goes_out Kept = false
goes_out _ = true

abbrev pub resumes : BindingKind → Bool
resumes (kind.TakenUp u) = is_resumed u.how
resumes _ = false

-- the producer's delivery that a row brings along if it is taken up again, and what it has of its producer if it is joined to that
abbrev pub brought : (TakenUp → Option Origin) → (Holding → Option Origin) → BindingKind → Option Origin
brought field held (kind.Message origin) = None
brought field held (kind.TakenUp u) = field u
brought field held (kind.Joined q to) = held q

abbrev pub told_of : BindingKind → Option Origin
told_of k = brought (λ u. u.told) (λ q. None) k

abbrev pub early_of : BindingKind → Option Origin
early_of k = brought (λ u. u.early) settled_held k

abbrev pub owned_of : BindingKind → Option Origin
owned_of k = brought (λ u. u.owned) unresumed_held k

-- The outcome that a row has already; none if its producer has settled it. Nothing is sent of a row that is joined to its producer's link: if it is
-- undecided, it is suspended until its consumer's link takes it up again.
abbrev pub outcome_known : JoinedTo → Option DeliveryState
outcome_known Standing = None
outcome_known (New outcome) = outcome

abbrev pub outcome_held : Holding → JoinedTo → Option DeliveryState
outcome_held (holding.Settled a) to = None
outcome_held _ to = outcome_known to

abbrev pub outcome_in : BindingKind → Option DeliveryState
outcome_in (kind.Message origin) = None
outcome_in (kind.TakenUp u) = outcome_as u.how
outcome_in (kind.Joined q to) = outcome_held q to

abbrev pub is_sent : BindingKind → Bool
is_sent (kind.Message origin) = true
is_sent (kind.TakenUp u) = goes_out u.how
is_sent (kind.Joined q to) = false

-- it waits until its consumer's link takes it up
abbrev pub is_put_off : BindingKind → Bool
is_put_off (kind.Joined q to) = is_none (outcome_held q to)
is_put_off _ = false

abbrev pub presettles : BindingKind → Bool
presettles (kind.Message origin) = is_none origin
presettles _ = false

abbrev pub bound : DeliveryName → Rank → Binding → Delivery
bound name rank b = record {
  name = name;
  rank = rank;
  link = b.consumer;
  origin = origin_of b.kind;
  presettled = presettles b.kind;
  format = b.format;
  payload = b.payload;
  id = None;
  sent = 0;
  going_on = is_sent b.kind;
  outcome = outcome_in b.kind;
  told = told_of b.kind;
  early = early_of b.kind;
  owned = owned_of b.kind;
  lasting = has_row name && b.lasting;
  suspended = is_put_off b.kind;
  resumed = resumes b.kind;
}

-- A producer's link has the delivery with the row. If the producer resumes it, the outcome is reported to its delivery from now on; if the link was only
-- attached again, the delivery counts for it; if the producer settles it without resuming it, it counts no longer than it is undecided. Nothing else changes.
abbrev pub with_origin : Origin → Delivery → Delivery
with_origin p d = record d { origin = Some p; told = None; early = None; owned = None }

abbrev pub held_by : Holding → Delivery → Delivery
held_by (holding.Resumed p) d = with_origin p d
held_by (holding.Unresumed a) d = record d { owned = Some (link_alone a) }
held_by (holding.Settled a) d = record d { early = Some (link_alone a); owned = None }

-- it is sent only to settle it
abbrev pub settles : Delivery → Bool
settles d = d.resumed && is_some d.outcome

-- A delivery is over once it is decided or suspended, its producer needs no more of it, and no frame of it remains to be sent.
abbrev pub is_over : Delivery → Bool
is_over d = not d.going_on && ((is_some d.outcome || d.suspended) && is_none (holder d))

abbrev pub unless_over : Delivery → Option Delivery
unless_over d = if is_over d then None else Some d

-- the delivery with a name, which a producer's link has from now on
abbrev pub joined : DeliveryName → Holding → Option Delivery → Option Delivery
joined name q None = None
joined name q (Some d) = if same_name d.name name then unless_over (held_by q d) else Some d

-- The tag that the router gives a delivery: the row's number in 8 bytes, or the byte 76 (hexadecimal) and the counter in 8 bytes.
abbrev pub byte_of : ℕ → ℕ → ℕ
byte_of n place = (n / 256 ^ place) % 256

abbrev pub eight_bytes : ℕ → List ℕ
eight_bytes n = byte_of n 7 ∷ byte_of n 6 ∷ byte_of n 5 ∷ byte_of n 4 ∷ byte_of n 3 ∷ byte_of n 2 ∷ byte_of n 1 ∷ byte_of n 0 ∷ []

abbrev pub tag_of : DeliveryName → List ℕ
tag_of (Row r) = eight_bytes r.0
tag_of (Counter k) = 118 ∷ eight_bytes k

abbrev pub number_in : List ℕ → ℕ → ℕ
number_in [] n = n
number_in (b ∷ bs) n = number_in bs (256 * n + b)

abbrev pub row_in : List ℕ → Option DeliveryName
row_in tag = if length tag == 8 then Some (Row (record { 0 = number_in tag 0 })) else None

abbrev pub tagged : List ℕ → Option DeliveryName
tagged [] = None
tagged (b ∷ bs) = if (length bs == 8) && (b == 118) then Some (Counter (number_in bs 0)) else row_in (b ∷ bs)

-- The number of the delivery that a transfer of the router carries, where `numbers` gives that of the last binding with a name. A first frame has
-- its tag; a later frame has none, so its delivery is that of the frame before it on its link, if that has more.
abbrev pub number_tagged : (DeliveryName → Option ℕ) → List ℕ → Option ℕ
number_tagged numbers tag = option_and_then numbers (tagged tag)

abbrev pub carried : (DeliveryName → Option ℕ) → Option (List ℕ) → Option ℕ → Option ℕ
carried numbers (Some tag) before = number_tagged numbers tag
carried numbers None before = before

abbrev pub tag_in : Transfer → Option (List ℕ)
tag_in x = option_map (λ tag. tag.items) x.delivery_tag

abbrev pub sending_in : (DeliveryName → Option ℕ) → Perf → ℕ → ℕ → ℕ → Option ℕ → Option ℕ
sending_in numbers (perf.Transfer x) own o h v = if (own == o) && (x.handle == h) then (if x.more then carried numbers (tag_in x) v else None) else v
sending_in numbers body own o h v = if ends_handle_in body own o h then None else v

abbrev pub sending_by : (DeliveryName → Option ℕ) → Item → ℕ → ℕ → Option ℕ → Option ℕ
sending_by numbers (item.Frame sasl own body payload) o h v = sending_in numbers body own o h v
sending_by numbers _ o h v = v

abbrev pub sending : Trace → ℕ → ℕ → ℕ → Option ℕ
sending [] c o h = None
sending (Did s ∷ t) c o h = if is_lost s.event c then None else sending t c o h
sending (Out d i ∷ t) c o h = if d == c then sending_by (number_named t) i o h (sending t c o h) else sending t c o h
sending (Took d n ∷ t) c o h = sending t c o h
sending (Bound b ∷ t) c o h = sending t c o h
sending (Booked acts full ∷ t) c o h = sending t c o h
sending (Routed passage ∷ t) c o h = sending t c o h
sending (Began g ∷ t) c o h = None

abbrev pub is_id : Option ℕ → ℕ → Bool
is_id None id = false
is_id (Some k) id = k == id

-- The number of the delivery that an id names on a session, on the router's side: the last one that a transfer began under it (2.6.12).
abbrev pub begins_under : (DeliveryName → Option ℕ) → Transfer → ℕ → Option ℕ → Option ℕ
begins_under numbers x id v = if is_id x.delivery_id id then option_and_then (number_tagged numbers) (tag_in x) else v

abbrev pub named_in : (DeliveryName → Option ℕ) → Perf → ℕ → ℕ → ℕ → Option ℕ → Option ℕ
named_in numbers (perf.Transfer x) own o id v = if own == o then begins_under numbers x id v else v
named_in numbers (perf.End x) own o id v = if own == o then None else v
named_in numbers (perf.Close x) own o id v = None
named_in numbers _ own o id v = v

abbrev pub named_by : (DeliveryName → Option ℕ) → Item → ℕ → ℕ → Option ℕ → Option ℕ
named_by numbers (item.Frame sasl own body payload) o id v = named_in numbers body own o id v
named_by numbers _ o id v = v

abbrev pub named : Trace → ℕ → ℕ → ℕ → Option ℕ
named [] c o id = None
named (Did s ∷ t) c o id = if is_lost s.event c then None else named t c o id
named (Out d i ∷ t) c o id = if d == c then named_by (number_named t) i o id (named t c o id) else named t c o id
named (Took d n ∷ t) c o id = named t c o id
named (Bound b ∷ t) c o id = named t c o id
named (Booked acts full ∷ t) c o id = named t c o id
named (Routed passage ∷ t) c o id = named t c o id
named (Began g ∷ t) c o id = None

-- A transfer that carries the delivery: the id is that of its first frame; a delivery that was settled before is decided with its last frame.
abbrev pub after_frame : Transfer → ℕ → Delivery → Delivery
after_frame x count d = record d {
  id = (if is_none d.id then x.delivery_id else d.id);
  sent = d.sent + count;
  going_on = x.more;
  outcome = (if d.presettled && not x.more then Some state.Accepted else d.outcome);
}

abbrev pub stands_on : Attachment → ℕ → ℕ → Bool
stands_on a c o = (a.conn.0 == c) && (a.channel == o)

-- The consumer decides a delivery: its disposition has a terminal state, or settles without one, which means modified with
-- delivery-failed. An undecided delivery is decided likewise when its link ends.
abbrev pub failed : DeliveryState
failed = state.Modified (record { delivery_failed = true; undeliverable_here = false; message_annotations = None })

abbrev pub terminal : Option DeliveryState → Option DeliveryState
terminal (Some (state.Received r)) = None
terminal (Some (state.Other v)) = None
terminal s = s

abbrev pub decision : Bool → Option DeliveryState → Option DeliveryState
decision settled (Some s) = Some s
decision settled None = if settled then Some failed else None

abbrev pub last_of : Disposition → ℕ
last_of x = unwrap_or x.last x.first

abbrev pub is_undecided : Delivery → Bool
is_undecided d = is_none d.outcome && not (d.presettled || d.suspended)

abbrev pub is_meant : Disposition → Option ℕ → Bool
is_meant x None = false
is_meant x (Some id) = in_range x.first (last_of x) id

abbrev pub is_number : Option ℕ → ℕ → Bool
is_number None n = false
is_number (Some k) n = k == n

-- the delivery has this number, and an id of a session names it
abbrev pub is_named : Option ℕ → (ℕ → Option ℕ) → ℕ → Bool
is_named None names n = false
is_named (Some id) names n = is_number (names id) n

abbrev pub decided : Disposition → (ℕ → Option ℕ) → ℕ → Delivery → Delivery
decided x names n d = if is_undecided d && is_meant x d.id && is_named d.id names n then record d { outcome = decision x.settled (terminal x.state) } else d

-- The outcome needs no more reporting: a settled disposition of the router as a receiver reported it, or the producer settled it. An unsettled
-- one tells it, and its producer settles it later.
abbrev pub origin_id : Option Origin → ℕ → ℕ → Option ℕ
origin_id None c o = None
origin_id (Some p) c o = if stands_on p.link c o then Some p.id else None

abbrev pub untold : Delivery → Delivery
untold d = record d { origin = None; told = None; early = (if is_none d.outcome && has_row d.name then source d else None) }

abbrev pub unsettled : Delivery → Delivery
unsettled d = record d { origin = None; told = source d }

abbrev pub told : Role → Disposition → ℕ → ℕ → Delivery → Delivery
told Receiver x c o d = if is_meant x (origin_id (source d) c o) then (if x.settled then untold d else unsettled d) else d
told Sender x c o d = d

-- The end of a link: the consumer's, and the producer's. A durable link that isn't closed for good is suspended.
abbrev pub decided_at_end : Delivery → Delivery
decided_at_end d = record d { going_on = false; outcome = (if is_none d.outcome then Some failed else d.outcome) }

abbrev pub suspended_at_end : Delivery → Delivery
suspended_at_end d = record d { going_on = false; suspended = is_none d.outcome }

abbrev pub ended : Bool → Delivery → Delivery
ended closed d = if d.suspended then d else (if d.lasting && not closed then suspended_at_end d else decided_at_end d)

abbrev pub is_gone_with : (Attachment → Bool) → Option Origin → Bool
is_gone_with gone None = false
is_gone_with gone (Some p) = gone p.link

abbrev pub forsaken : Delivery → Delivery
forsaken d = record d { origin = None; told = None; early = None; owned = None }

abbrev pub after_origin : (Attachment → Bool) → Delivery → Delivery
after_origin gone d = if is_gone_with gone (sender d) then forsaken d else d

abbrev pub after_ends : Bool → (Attachment → Bool) → Delivery → Delivery
after_ends closed gone d = after_origin gone (if gone d.link then ended closed d else d)

-- what an item that the router puts on a connection does to a delivery
abbrev pub ended_by : Item → ℕ → Attachment → Bool
ended_by i c a = (a.conn.0 == c) && ends_handle i a.channel a.handle

-- a detach that closes its link for good
abbrev pub closes : Perf → Bool
closes (perf.Detach x) = x.closed
closes _ = false

abbrev pub put_in : (DeliveryName → Option ℕ) → Perf → ℕ → ℕ → ℕ → (ℕ → ℕ → Option ℕ) → ℕ → Delivery → Delivery
put_in numbers (perf.Transfer x) c own n sent count d = if is_number (carried numbers (tag_in x) (sent own x.handle)) n then after_frame x count d else d
put_in numbers (perf.Disposition x) c own n sent count d = told x.role x c own d
put_in numbers _ c own n sent count d = d

abbrev pub after_put : (DeliveryName → Option ℕ) → Item → ℕ → ℕ → (ℕ → ℕ → Option ℕ) → Delivery → Delivery
after_put numbers (item.Frame sasl own body payload) c n sent d =
    after_ends (closes body) (ended_by (item.Frame sasl own body payload) c) (put_in numbers body c own n sent (length payload) d)
after_put numbers i c n sent d = d

-- what an item received on a connection does to a delivery, given what its channel stands for
abbrev pub is_on : Attachment → ℕ → Option PeerChannel → Bool
is_on a c v = (a.conn.0 == c) && maps v a.channel

abbrev pub is_settled_at : Disposition → ℕ → Option PeerChannel → Option Origin → Bool
is_settled_at x c v None = false
is_settled_at x c v (Some p) = x.settled && is_on p.link c v && in_range x.first (last_of x) p.id

abbrev pub disposed : Role → Disposition → ℕ → Option PeerChannel → (ℕ → Option ℕ) → ℕ → Delivery → Delivery
disposed Receiver x c v names n d = if is_on d.link c v then decided x names n d else d
disposed Sender x c v names n d = if is_settled_at x c v (source d) then untold d else d

-- An attach may decide deliveries: its unsettled map has states for them (2.6.13). An undecided delivery with a row gets the outcome that the acts of the
-- attach give its row, also if it is suspended.
abbrev pub outcome_by : RowNumber → Act → Option DeliveryState
outcome_by r (Decide x) = if x.row.0 == r.0 then Some x.outcome else None
outcome_by r _ = None

abbrev pub outcome_or : Option DeliveryState → Option DeliveryState → Option DeliveryState
outcome_or (Some outcome) other = Some outcome
outcome_or None other = other

abbrev pub outcome_among : List Act → RowNumber → Option DeliveryState
outcome_among [] r = None
outcome_among (act ∷ acts) r = outcome_or (outcome_by r act) (outcome_among acts r)

abbrev pub outcome_named : List Act → DeliveryName → Option DeliveryState
outcome_named acts (Row r) = outcome_among acts r
outcome_named acts (Counter k) = None

abbrev pub given : List Act → Delivery → Delivery
given acts d = record d { outcome = outcome_or d.outcome (outcome_named acts d.name) }

abbrev pub heard_in : Perf → ℕ → Option PeerChannel → (ℕ → ℕ → Option ℕ) → List Act → ℕ → Delivery → Delivery
heard_in (perf.Disposition x) c v names acts n d = disposed x.role x c v (names d.link.channel) n d
heard_in (perf.Attach x) c v names acts n d = given acts d
heard_in _ c v names acts n d = d

abbrev pub heard : Item → ℕ → (ℕ → Option PeerChannel) → (ℕ → ℕ → Option ℕ) → List Act → ℕ → Delivery → Delivery
heard (item.Frame sasl channel body payload) c known names acts n d = if sasl then d else heard_in body c (known channel) names acts n d
heard _ c known names acts n d = d

abbrev pub lost_with : ℕ → Attachment → Bool
lost_with c a = a.conn.0 == c

abbrev pub after_event : Event → (ℕ → ℕ → Option PeerChannel) → (ℕ → ℕ → ℕ → Option ℕ) → List Act → ℕ → Delivery → Delivery
after_event (event.Item c i) known names acts n d = heard i c.0 (known c.0) (names c.0) acts n d
after_event (event.Down c) known names acts n d = after_ends false (lost_with c.0) d
after_event _ known names acts n d = d

-- The connections that the event to come ends first, because their outboxes are full. It finds that their channels stand for nothing, so its
-- item says nothing of deliveries if it came on one of them.
abbrev pub ended_first : Trace → List ℕ
ended_first [] = []
ended_first (Did s ∷ t) = []
ended_first (Out d i ∷ t) = []
ended_first (Took d n ∷ t) = ended_first t
ended_first (Bound b ∷ t) = []
ended_first (Booked acts full ∷ t) = full
ended_first (Routed passage ∷ t) = []
ended_first (Began g ∷ t) = []

-- the acts of the event to come
abbrev pub acts_found : Trace → List Act
acts_found [] = []
acts_found (Did s ∷ t) = []
acts_found (Out d i ∷ t) = []
acts_found (Took d n ∷ t) = acts_found t
acts_found (Bound b ∷ t) = []
acts_found (Booked acts full ∷ t) = acts
acts_found (Routed passage ∷ t) = []
acts_found (Began g ∷ t) = []

-- of these the ones that give outcomes: those of an attach
abbrev pub giving_in : Perf → List Act → List Act
giving_in (perf.Attach x) acts = acts
giving_in _ acts = []

abbrev pub giving : Item → List Act → List Act
giving (item.Frame sasl channel body payload) acts = if sasl then [] else giving_in body acts
giving _ acts = []

abbrev pub giving_of : Event → List Act → List Act
giving_of (event.Item c i) acts = giving i acts
giving_of _ acts = []

abbrev pub none_if_ended : {A : Type 0} → List ℕ → ℕ → Option A → Option A
none_if_ended ends c v = if has c ends then None else v

abbrev pub channels_found : Trace → ℕ → ℕ → Option PeerChannel
channels_found t c p = none_if_ended (ended_first t) c (theirs t c p)

-- The delivery with a number; none before it is bound, once it is over, and once its row is bound again under another number.
abbrev pub unless_called : DeliveryName → Option Delivery → Option Delivery
unless_called name None = None
unless_called name (Some d) = if same_name d.name name then None else Some d

abbrev pub with_binding : Option Holding → DeliveryName → Rank → Binding → Bool → Option Delivery → Option Delivery
with_binding None name rank b new v = if new then Some (bound name rank b) else unless_called name v
with_binding (Some q) name rank b new v = joined name q v

abbrev pub delivery : Trace → ℕ → Option Delivery
delivery [] n = None
delivery (Did s ∷ t) n = option_and_then (λ d. unless_over (after_event s.event (channels_found t) (named t) (acts_found t) n d)) (delivery t n)
delivery (Out c i ∷ t) n = option_and_then (λ d. unless_over (after_put (number_named t) i c n (sending t c) d)) (delivery t n)
delivery (Took c k ∷ t) n = delivery t n
delivery (Bound b ∷ t) n = with_binding (holds_standing b.kind) (name_in t b) (rank_in t b) b (bindings t + 1 == n) (delivery t n)
delivery (Booked acts full ∷ t) n = delivery t n
delivery (Routed passage ∷ t) n = delivery t n
delivery (Began g ∷ t) n = None

-- the delivery that has a name now, and what of it goes on if its row is taken up again: the producer's delivery
abbrev pub called : Trace → DeliveryName → Option Delivery
called t name = option_and_then (delivery t) (number_named t name)

abbrev pub origin_in : Option Delivery → Option Origin
origin_in None = None
origin_in (Some d) = d.origin

abbrev pub told_in : Option Delivery → Option Origin
told_in None = None
told_in (Some d) = d.told

abbrev pub early_in : Option Delivery → Option Origin
early_in None = None
early_in (Some d) = d.early

abbrev pub owned_in : Option Delivery → Option Origin
owned_in None = None
owned_in (Some d) = d.owned

-- A row with this outcome, if it has one, is joined to its producer's link: the delivery that has the row, or else a new one. The producer's link stands
-- in the consumer's place there, and it has no message: a row that is taken up again has both from elsewhere.
abbrev pub joined_to : Option Delivery → Option DeliveryState → JoinedTo
joined_to (Some d) outcome = Standing
joined_to None outcome = New outcome

abbrev pub joining : Holding → RowNumber → JoinedTo → Binding
joining q row to = record { consumer = link_held q; row = Some row; lasting = true; format = 0; payload = []; kind = kind.Joined q to }

abbrev pub joined_by : Trace → Holding → RowNumber → Option DeliveryState → Binding
joined_by t q row outcome = joining q row (joined_to (called t (Row row)) outcome)

-- the place in the order of binding of the delivery with a number
abbrev pub ranked : Option Delivery → Rank
ranked None = record { row = 0; counter = 0 }
ranked (Some d) = d.rank

abbrev pub rank_at : Trace → ℕ → Rank
rank_at t n = ranked (delivery t n)

-- Tests of a delivery: it waits to start on a link, it is undecided there, its outcome must be reported to its producer.
abbrev pub waits_on : ℕ → Option Delivery → Bool
waits_on number None = false
waits_on number (Some d) = (d.link.number == number) && is_none d.id && d.going_on

abbrev pub undecided_on : ℕ → Option Delivery → Bool
undecided_on number None = false
undecided_on number (Some d) = (d.link.number == number) && (is_none d.outcome && not d.suspended)

abbrev pub is_of : ℕ → Option Origin → Bool
is_of number None = false
is_of number (Some p) = p.link.number == number

abbrev pub held_from : ℕ → Option Delivery → Bool
held_from number None = false
held_from number (Some d) = is_of number (holder d) && (is_none d.outcome || has_row d.name)

abbrev pub is_to_tell : Option Delivery → Bool
is_to_tell None = false
is_to_tell (Some d) = is_some d.outcome && is_some d.origin

-- The next delivery-id that the router gives on a session: 0 after its begin, then one more than the last that it gave.
abbrev pub after_id : Option ℕ → ℕ → ℕ
after_id None next = next
after_id (Some id) next = (id + 1) % 2 ^ 32

abbrev pub next_id_in : Perf → ℕ → ℕ → ℕ → ℕ
next_id_in (perf.Begin x) own o next = if own == o then 0 else next
next_id_in (perf.Transfer x) own o next = if own == o then after_id x.delivery_id next else next
next_id_in (perf.End x) own o next = if own == o then 0 else next
next_id_in (perf.Close x) own o next = 0
next_id_in _ own o next = next

abbrev pub next_id_by : Item → ℕ → ℕ → ℕ
next_id_by (item.Frame sasl own body payload) o next = next_id_in body own o next
next_id_by _ o next = next

abbrev pub next_id : Trace → ℕ → ℕ → ℕ
next_id [] c o = 0
next_id (Did s ∷ t) c o = if is_lost s.event c then 0 else next_id t c o
next_id (Out d i ∷ t) c o = if d == c then next_id_by i o (next_id t c o) else next_id t c o
next_id (Took d n ∷ t) c o = next_id t c o
next_id (Bound b ∷ t) c o = next_id t c o
next_id (Booked acts full ∷ t) c o = next_id t c o
next_id (Routed passage ∷ t) c o = if_passed (λ i next. next_id_by i o next) (passed_to passage c) (next_id t c o)
next_id (Began g ∷ t) c o = 0
