-- What can be looked up of a link: its credit state, the delivery in its middle, and its attachment; and the link with a number.
use Rattle.std.specs.Prelude.{ℕ, Bool, true, false, not, if◌then◌else◌, Option, Some, None, option_map}
use Rattle.amqp_link.specs.declared.part.Delivery.{Delivery as Told}
use Rattle.amqp_link.specs.Credit as credit
use Rattle.amqp_link.specs.Figures.{left_at, unused_at}
use Rattle.amqp_link.specs.Receiving as receiving
use Rattle.book_model.specs.declared.terminus.LinkKey.{LinkKey}
use Rattle.router_trace.specs.declared.handle.Attachment.{Attachment}
use Rattle.router_trace.specs.Trace.{Trace}
use Rattle.router_trace.specs.Links.{Link as View, LinkPlace, nowhere, detaching, on, Happened, sends, receives, link, place_of, durable_key}
use Rattle.router_trace.specs.Settling.{middle_by}
use Rattle.state_links.specs.declared.link.Link.{Link}
use Rattle.state_links.specs.declared.link.LinkEnd.{LinkEnd}
use Rattle.state_links.specs.declared.link.LinkEnd.TheVariants as ends
use Rattle.state_links.specs.Fits.{attachment}
use Rattle.state_links.specs.Touching.{if_number}

-- the link credit left, if the router is the sender
abbrev pub credit_on : Happened → ℕ
credit_on (sends list) = credit.credit list
credit_on (receives list) = 0

abbrev pub credit_at : LinkEnd → ℕ
credit_at (ends.Sends e) = left_at e
credit_at (ends.Receives e) = 0

-- the link credit that the peer was granted and hasn't used, if the peer is the sender
abbrev pub unused_on : Happened → ℕ
unused_on (sends list) = 0
unused_on (receives list) = receiving.unused list

abbrev pub unused_end : LinkEnd → ℕ
unused_end (ends.Sends e) = 0
unused_end (ends.Receives e) = unused_at e

-- the sender's delivery-count
abbrev pub count_on : Happened → ℕ
count_on (sends list) = credit.count list
count_on (receives list) = receiving.delivery_count list

abbrev pub count_at : LinkEnd → ℕ
count_at (ends.Sends e) = e.count
count_at (ends.Receives e) = e.count

-- the router is the sender
abbrev pub sends_at : LinkEnd → Bool
sends_at (ends.Sends e) = true
sends_at (ends.Receives e) = false

-- the delivery in the middle, if the peer is the sender
abbrev pub middle_at : LinkEnd → Option Told
middle_at (ends.Sends e) = None
middle_at (ends.Receives e) = option_map (λ g. g.delivery) e.middle

abbrev pub middle_here : Option Link → Option Told
middle_here None = None
middle_here (Some l) = middle_at l.end

-- a delivery that isn't resumed is in the middle
abbrev pub is_new : Option Told → Bool
is_new None = false
is_new (Some d) = not d.resume

abbrev pub is_in_middle : View → Bool
is_in_middle l = is_new (middle_by l.happened)

-- the key of a durable link
abbrev pub durable_at : Option Link → Option LinkKey
durable_at None = None
durable_at (Some l) = if l.durable then Some l.key else None

-- the key of the durable link that a peer's handle stands for
abbrev pub key_on : LinkPlace → Option LinkKey
key_on nowhere = None
key_on detaching = None
key_on (on h l) = durable_key (Some l)

-- the attachment of the link at a place
abbrev pub attachment_of : ℕ → ℕ → ℕ → Link → Attachment
attachment_of c o h l = attachment l.number c o h

abbrev pub attachment_on : ℕ → ℕ → ℕ → Option View → Option Attachment
attachment_on c o h None = None
attachment_on c o h (Some l) = Some (attachment l.number c o h)

-- the link of the attachment with a number, while it has it
abbrev pub link_on : Trace → Option Attachment → Option View
link_on t None = None
link_on t (Some a) = link t a.conn.0 a.channel a.handle

abbrev pub numbered_link : Trace → ℕ → Option View
numbered_link t n = link_on t (place_of t n)

-- the same in a table
abbrev pub numbered_here : (ℕ → ℕ → ℕ → Option Link) → Option Attachment → Option Link
numbered_here known None = None
numbered_here known (Some a) = if_number a.number (known a.conn.0 a.channel a.handle)
