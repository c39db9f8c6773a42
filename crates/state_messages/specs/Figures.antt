-- What each link offers and wants, in a trace (AMQP 1.0 part 2, section 2.6.7): the free credit of consumers, the credit that producers have.
use Rattle.std.specs.Prelude.{ℕ, Bool, ◌+◌, ◌-◌, ◌==◌, ◌&&◌, ◌||◌, nat_lt, min, if◌then◌else◌, length, Option, Some, None}
use Rattle.amqp_link.specs.declared.part.Delivery.{Delivery as Told}
use Rattle.amqp_link.specs.Credit as credit
use Rattle.amqp_link.specs.Receiving as receiving
use Rattle.amqp_link.specs.Receiving.{Received}
use Rattle.state_pools.specs.Sharing.{Figure, consumer, producer}
use Rattle.router_trace.specs.declared.handle.Attachment.{Attachment}
use Rattle.route_table.specs.declared.sections.Distribution.{Distribution}
use Rattle.route_table.specs.declared.sections.Distribution.TheVariants.{Balanced, Closest, Multicast}
use Rattle.router_trace.specs.Trace.{Trace}
use Rattle.router_trace.specs.Configuration.{distribution}
use Rattle.router_trace.specs.Links.{Link, Happened, sends, receives, numbered}
use Rattle.router_trace.specs.Deliveries.{bindings, delivery, waits_on, undecided_on, held_from}
use Rattle.router_trace.specs.Following.{link_of}
use Rattle.router_trace.specs.Numbers.{count_below}
use Rattle.router_trace.specs.Settling.{told_first}

-- the deliveries that wait on a consumer's link, those that are undecided there, and the undecided ones from a producer's link
abbrev pub waiting : Trace → ℕ → ℕ
waiting t number = count_below (bindings t + 1) (λ n. waits_on number (delivery t n))

abbrev pub undecided : Trace → ℕ → ℕ
undecided t number = count_below (bindings t + 1) (λ n. undecided_on number (delivery t n))

abbrev pub held : Trace → ℕ → ℕ
held t number = count_below (bindings t + 1) (λ n. held_from number (delivery t n))

-- A durable link's attach may say that its map is incomplete. Other links have no map, and there the flag says nothing.
abbrev pub lacks_rows : Link → Bool
lacks_rows l = l.durable && l.incomplete

-- Free credit: the credit left less the waiting deliveries, at most 64 less the undecided ones; none while the link drains, and none if its attach had an
-- incomplete map.
abbrev pub free_of : Bool → ℕ → ℕ → ℕ → ℕ
free_of stopped left waits pending = if stopped then 0 else min (left - waits) (64 - pending)

abbrev pub free_credit : Trace → Link → credit.Link → ℕ
free_credit t l list = free_of (l.drains || lacks_rows l) (credit.credit list) (waiting t l.number) (undecided t l.number)

-- A delivery in the middle that isn't resumed has used its producer's credit, but is bound to no consumer yet: it counts as one unused credit.
abbrev pub begun_credit : Option Told → ℕ
begun_credit None = 0
begun_credit (Some d) = if d.resume then 0 else 1

abbrev pub unused_credit : Received → ℕ
unused_credit list = receiving.unused list + begun_credit (told_first (receiving.middle list))

abbrev pub unused_by : Happened → ℕ
unused_by (sends list) = 0
unused_by (receives list) = unused_credit list

-- What a producer's link is still to be granted by the event of its attach: what is due; on a multicast address more, up to 64 in all.
abbrev pub owed_by : Distribution → ℕ → ℕ
owed_by Balanced due = due
owed_by Closest due = due
owed_by Multicast due = if nat_lt 0 due then due + (64 - due) else 0

abbrev pub owed_credit : Trace → Link → ℕ
owed_credit t l = owed_by (distribution t l.address) l.owes_due

-- A producer's: with the credit that it is still to be granted for what is due.
abbrev pub figure_by : Trace → Link → Happened → Figure
figure_by t l (sends list) = consumer l.address (free_credit t l list) (undecided t l.number)
figure_by t l (receives list) = producer l.address (unused_credit list + owed_credit t l) (length l.due) (held t l.number)

-- the link of an attachment's number, while it is attached
abbrev pub figure_on : Trace → ℕ → Option Link → Option Figure
figure_on t number None = None
figure_on t number (Some l) = if l.number == number then Some (figure_by t l l.happened) else None

abbrev pub figure_at : Trace → ℕ → Option Attachment → Option Figure
figure_at t number None = None
figure_at t number (Some a) = figure_on t number (link_of t a)

abbrev pub figure : Trace → ℕ → Option Figure
figure t number = figure_at t number (numbered t number)
