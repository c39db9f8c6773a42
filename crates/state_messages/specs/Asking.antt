-- Queries on the tables by what follows an event's rows.
use Rattle.std.specs.Prelude.{ℕ, ◌+◌, ◌%◌, ◌^◌, Bool, true, false, ◌&&◌, ◌||◌, ◌==◌, nat_lt, is_some, if◌then◌else◌, List, [], ◌∷◌, ◌++◌, Option, Some, None}
use Rattle.amqp_link.specs.Credit as credit
use Rattle.book_model.specs.declared.terminus.LinkKey.{LinkKey}
use Rattle.router_trace.specs.declared.frames.LinkState.{LinkState}
use Rattle.router_trace.specs.declared.handle.Attachment.{Attachment}
use Rattle.router_trace.specs.Trace.{Trace}
use Rattle.router_trace.specs.Links.{Link, Happened, sends, receives, numbered, holder, place_of}
use Rattle.router_trace.specs.Deliveries.{delivery}
use Rattle.router_trace.specs.Following.{link_of, first_delivery, is_unsent_on, is_sending, owes_one, is_going_on}
use Rattle.state_deliveries.specs.Finding.{is_above}
use Rattle.state_messages.specs.Messages.{is_there}

-- frames of deliveries remain to be sent on a link
abbrev pub has_unsent : Trace → ℕ → Bool
has_unsent t number = is_some (first_delivery t (is_unsent_on number))

-- the router has begun a delivery on a link, of which more frames remain to be sent
abbrev pub goes_on : Option Link → ℕ → Bool
goes_on None number = false
goes_on (Some l) number = (l.number == number) && l.going_on

-- the link of an attachment's number owes a drain
abbrev pub owes_on : Trace → ℕ → Option Attachment → Bool
owes_on t n None = false
owes_on t n (Some a) = owes_one (link_of t a) n

abbrev pub owes_drain : Trace → ℕ → Bool
owes_drain t n = owes_on t n (numbered t n)

-- the link state that answers a drain: the delivery-count advanced by the credit left, and no credit
abbrev pub drained_by : ℕ → Happened → Option LinkState
drained_by h (sends list) = Some (record { handle = h; count = (credit.count list + credit.credit list) % 2 ^ 32; credit = 0; drain = true })
drained_by h (receives list) = None

abbrev pub drained_state : ℕ → Option Link → Option LinkState
drained_state h None = None
drained_state h (Some l) = drained_by h l.happened

-- one of the deliveries with these numbers is in progress on a session
abbrev pub some_go_on : Trace → ℕ → ℕ → List ℕ → Bool
some_go_on t c o [] = false
some_go_on t c o (n ∷ ns) = is_going_on t c o n (delivery t n) || some_go_on t c o ns

-- a number is below another, or there is no other
abbrev pub is_below : Option ℕ → ℕ → Bool
is_below None n = true
is_below (Some m) n = nat_lt n m

-- the lowest number, above another, of these attachments
abbrev pub lower_number : Option ℕ → Option ℕ → ℕ → Option ℕ
lower_number above lowest n = if is_above above n && is_below lowest n then Some n else lowest

abbrev pub lowest_of : Option ℕ → Option ℕ → List Attachment → Option ℕ
lowest_of above lowest [] = lowest
lowest_of above lowest (a ∷ others) = lowest_of above (lower_number above lowest a.number) others

-- the attachment with a key, if the router is the sender on its link
abbrev pub is_consumer : Option Link → Bool
is_consumer None = false
is_consumer (Some l) = is_sending l.happened

abbrev pub if_consumer : Trace → Option Attachment → Option Attachment
if_consumer t None = None
if_consumer t (Some a) = if is_consumer (link_of t a) then Some a else None

abbrev pub consumer_with : Trace → LinkKey → Option Attachment
consumer_with t k = if_consumer t (holder t k)

-- the attachments with these numbers that still have their links
abbrev pub standing : Trace → List ℕ → List Attachment
standing t [] = []
standing t (n ∷ ns) = is_there (place_of t n) ++ standing t ns
