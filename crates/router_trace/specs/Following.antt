-- What follows the rows of an event, in a trace: outcomes are sent to producers, deliveries to consumers, drains are answered. Each definition gives
-- the frame that is due first; frames go out one after another as long as one is due.
use Rattle.std.specs.Prelude.{ℕ, zero, suc, ◌+◌, ◌%◌, ◌^◌, Bool, true, false, not, ◌&&◌, ◌||◌, ◌==◌, nat_eq, nat_lt, if◌then◌else◌, is_none, is_some, List, [], ◌∷◌, Option, Some, None}
use Rattle.amqp_model.specs.declared.perf.Role.TheVariants.{Receiver}
use Rattle.amqp_model.specs.declared.state.DeliveryState.{DeliveryState}
use Rattle.amqp_model.specs.declared.perf.Transfer.{Transfer}
use Rattle.amqp_session.specs.declared.states.FlowState.{FlowState}
use Rattle.amqp_session.specs.Session.{Session, remote_window}
use Rattle.amqp_link.specs.Credit as credit
use Rattle.router_trace.specs.declared.binding.Origin.{Origin}
use Rattle.router_trace.specs.declared.handle.Attachment.{Attachment}
use Rattle.router_trace.specs.Trace.{Trace, Put, goes}
use Rattle.router_trace.specs.Frames.{told_of}
use Rattle.router_trace.specs.LinkFrames.{link_flow_item}
use Rattle.router_trace.specs.Links.{Link, Happened, sends, receives, link, numbered, attachments, is_attached}
use Rattle.router_trace.specs.Peers.{largest_frame}
use Rattle.router_trace.specs.Sessions.{session}
use Rattle.router_trace.specs.Deliveries.{Delivery, has_row, bindings, delivery, rank_at, sending, named, next_id, stands_on, is_number, is_undecided}
use Rattle.router_trace.specs.DeliveryFrames.{outcome_item, first_transfer, later_transfer, next_frame, largest_out, rest_of}
use Rattle.router_trace.specs.Numbers.{first_below, first_placed, first_ranked, no_rank, Placed}

-- What is due goes out this many times. Once nothing is due, nothing changes.
unfoldable pub repeated : (Trace → List Put) → ℕ → Trace → Trace
repeated next zero t = t
repeated next (suc n) t = repeated next n (goes (next t) t)

-- enough turns to send all that is due: no event sends as many frames as this
unfoldable pub turns : ℕ
turns = 2 ^ 64

abbrev pub as_long_as_due : (Trace → List Put) → Trace → Trace
as_long_as_due next t = repeated next turns t

-- The lowest number of a delivery that passes a test.
abbrev pub first_delivery : Trace → (Option Delivery → Bool) → Option ℕ
first_delivery t passes = first_below (bindings t + 1) (λ n. passes (delivery t n))

-- the link on an attachment's handle; its number says whether it is the attachment's
abbrev pub link_of : Trace → Attachment → Option Link
link_of t a = link t a.conn.0 a.channel a.handle

-- Outcomes for producers: the first, in the order of binding, of the deliveries that are decided and whose producer, still attached, has not been sent
-- the outcome.
abbrev pub is_still_attached : Trace → Option Origin → Bool
is_still_attached t None = false
is_still_attached t (Some p) = is_attached t p.link

abbrev pub is_to_be_told : Trace → Option Delivery → Bool
is_to_be_told t None = false
is_to_be_told t (Some d) = is_some d.outcome && is_still_attached t d.origin

-- that of a durable delivery isn't settled: its producer does that
abbrev pub outcome_to : Option Origin → Bool → Option DeliveryState → List Put
outcome_to (Some p) settled (Some s) = record { conn = p.link.conn.0; item = outcome_item p.link.channel Receiver p.id settled s } ∷ []
outcome_to _ settled _ = []

abbrev pub tell : Option Delivery → List Put
tell None = []
tell (Some d) = outcome_to d.origin (not (has_row d.name)) d.outcome

abbrev pub tells_of : Trace → Option ℕ → List Put
tells_of t None = []
tells_of t (Some n) = tell (delivery t n)

abbrev pub tells : Trace → List Put
tells t = tells_of t (first_ranked (rank_at t) (bindings t + 1) (λ n. is_to_be_told t (delivery t n)))

-- Sends (2.5.6, 2.6.7 and 2.6.12). A delivery that has begun goes on: the router's handle says that more of it is to come.
abbrev pub goes_on_at : Option Link → ℕ → Option ℕ → ℕ → Bool
goes_on_at None number sent n = false
goes_on_at (Some l) number sent n = (l.number == number) && (l.going_on && is_number sent n)

abbrev pub is_going : Trace → ℕ → Delivery → Bool
is_going t n d = (is_some d.id && d.going_on) && goes_on_at (link_of t d.link) d.link.number (sending t d.link.conn.0 d.link.channel d.link.handle) n

-- A waiting delivery starts if its link has credit left, no delivery on its session has begun and has more to come, and the id that it would get
-- names no undecided one.
abbrev pub has_credit : Happened → Bool
has_credit (sends list) = nat_lt 0 (credit.credit list)
has_credit (receives list) = false

abbrev pub takes_more : Option Link → ℕ → Bool
takes_more None number = false
takes_more (Some l) number = (l.number == number) && (not l.going_on && has_credit l.happened)

abbrev pub is_going_on : Trace → ℕ → ℕ → ℕ → Option Delivery → Bool
is_going_on t c o n None = false
is_going_on t c o n (Some d) = stands_on d.link c o && is_going t n d

abbrev pub is_busy : Trace → ℕ → ℕ → Bool
is_busy t c o = is_some (first_below (bindings t + 1) (λ n. is_going_on t c o n (delivery t n)))

abbrev pub is_open : Option Delivery → Bool
is_open None = false
is_open (Some d) = is_undecided d

abbrev pub is_used : Trace → Option ℕ → Bool
is_used t None = false
is_used t (Some n) = is_open (delivery t n)

abbrev pub can_start : Trace → Delivery → Bool
can_start t d =
    (is_none d.id && d.going_on)
    && (takes_more (link_of t d.link) d.link.number
    && (not (is_busy t d.link.conn.0 d.link.channel)
    && not (is_used t (named t d.link.conn.0 d.link.channel (next_id t d.link.conn.0 d.link.channel)))))

-- nothing is sent while the session's window is closed
abbrev pub is_wide : Option Session → Bool
is_wide None = false
is_wide (Some h) = not (nat_eq (remote_window h) 0)

-- the attachment's link is still attached: it has the attachment's number
abbrev pub is_there : Option Attachment → Attachment → Bool
is_there None a = false
is_there (Some b) a = (b.conn.0 == a.conn.0) && ((b.channel == a.channel) && (b.handle == a.handle))

abbrev pub can_go : Trace → ℕ → Delivery → Bool
can_go t n d = is_there (numbered t d.link.number) d.link && (is_wide (session t d.link.conn.0 d.link.channel) && (is_going t n d || can_start t d))

abbrev pub place_to_go : Trace → ℕ → Option Delivery → Option Attachment
place_to_go t n None = None
place_to_go t n (Some d) = if can_go t n d then Some d.link else None

-- the transfer that is due for a delivery
abbrev pub transfer_of : Trace → Delivery → Transfer
transfer_of t d =
    if is_none d.id then first_transfer d.link.handle (next_id t d.link.conn.0 d.link.channel) d else later_transfer d.link.handle d

abbrev pub send : Trace → Option Delivery → List Put
send t None = []
send t (Some d) =
    record { conn = d.link.conn.0; item = next_frame (largest_out (largest_frame t d.link.conn.0)) d.link.channel (transfer_of t d) (rest_of d) } ∷ []

abbrev pub send_of : Trace → Option Placed → List Put
send_of t None = []
send_of t (Some p) = send t (delivery t p.number)

-- ordered by connection, by the router's channel, then in the order of binding
abbrev pub sends_due : Trace → List Put
sends_due t = send_of t (first_placed (rank_at t) (bindings t + 1) (λ n. place_to_go t n (delivery t n)))

-- Answers to drains (2.6.7): on a link on which the router sends, if the peer's last flow asks for a drain that is not yet answered and every
-- delivery bound to the link was sent. The delivery-count advances by the credit left.
abbrev pub is_unsent_on : ℕ → Option Delivery → Bool
is_unsent_on number None = false
is_unsent_on number (Some d) = (d.link.number == number) && d.going_on

abbrev pub is_sending : Happened → Bool
is_sending (sends list) = true
is_sending (receives list) = false

abbrev pub owes_one : Option Link → ℕ → Bool
owes_one None number = false
owes_one (Some l) number = (l.number == number) && (l.owes_drain && is_sending l.happened)

abbrev pub is_drained : Trace → ℕ → Attachment → Bool
is_drained t n a = owes_one (link_of t a) n && is_none (first_delivery t (is_unsent_on n))

abbrev pub place_drained : Trace → ℕ → Option Attachment → Option Attachment
place_drained t n None = None
place_drained t n (Some a) = if is_drained t n a then Some a else None

abbrev pub drain_of : Attachment → FlowState → Happened → List Put
drain_of a told (sends list) =
    record { conn = a.conn.0; item = link_flow_item a.channel told (record { handle = a.handle; count = (credit.count list + credit.credit list) % 2 ^ 32; credit = 0; drain = true }) } ∷ []
drain_of a told (receives list) = []

abbrev pub drain_on : Attachment → Option Session → Option Link → List Put
drain_on a (Some s) (Some l) = drain_of a (told_of s) l.happened
drain_on a _ _ = []

abbrev pub drain_by : Trace → Option Placed → List Put
drain_by t None = []
drain_by t (Some p) = drain_on p.place (session t p.place.conn.0 p.place.channel) (link_of t p.place)

-- ordered by connection, by the router's channel, then by attach
abbrev pub drains_due : Trace → List Put
drains_due t = drain_by t (first_placed no_rank (attachments t + 1) (λ n. place_drained t n (numbered t n)))
