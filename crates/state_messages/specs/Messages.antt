-- Messages that go from a producer to a consumer of its address, and the credit granted to producers.
use Rattle.std.specs.Prelude.{◌≡◌, ℕ, zero, suc, Bool, false, ◌+◌, ◌==◌, ◌&&◌, if◌then◌else◌, List, [], ◌∷◌, ◌++◌, bytes_eq, nat_lt, Option, Some, None, is_some, option_and_then, option_map}
use Rattle.std.specs.Cmp.Lexicographic.{slice_cmp}
use Rattle.std.specs.Ordering.{nat_cmp}
use Rattle.std.specs.declared.cmp.Ordering.{Ordering}
use Rattle.std.specs.declared.cmp.Ordering.TheVariants.{Less}
use Rattle.amqp_session.specs.Session.{Session}
use Rattle.book_model.specs.declared.row.RowNumber.{RowNumber}
use Rattle.amqp_link.specs.Receiving as receiving
use Rattle.route_credit.specs.Granting.{choice, grants_of}
use Rattle.route_credit.specs.Links.{link_at}
use Rattle.route_credit.specs.Pool.{copies, Sharing}
use Rattle.state_pools.specs.Sharing.{Figure, producer, sharing}
use Rattle.router_trace.specs.declared.binding.Binding.{Binding}
use Rattle.router_trace.specs.declared.binding.BindingKind.TheVariants as kind
use Rattle.router_trace.specs.declared.binding.DeliveryName.TheVariants.{Row}
use Rattle.router_trace.specs.declared.binding.Origin.{Origin}
use Rattle.router_trace.specs.declared.binding.Resumed.{Resumed}
use Rattle.router_trace.specs.declared.binding.Resumed.TheVariants.{Settled}
use Rattle.router_trace.specs.declared.binding.TakenUp.{TakenUp}
use Rattle.router_trace.specs.declared.handle.Attachment.{Attachment}
use Rattle.router_trace.specs.Trace.{Trace, Put, Did, Out, Took, Bound, Booked, Routed, Began}
use Rattle.router_trace.specs.Configuration.{distribution}
use Rattle.router_trace.specs.Frames.{told_of}
use Rattle.router_trace.specs.LinkFrames.{link_flow_item}
use Rattle.router_trace.specs.Links.{Link, Happened, sends, receives, link, numbered, attachments, durable_key}
use Rattle.router_trace.specs.Sessions.{session}
use Rattle.router_trace.specs.Following.{link_of}
use Rattle.router_trace.specs.Deliveries.{called, is_message, origin_in, told_in, early_in, owned_in}
use Rattle.state_links.specs.Looking.{numbered_link}
use Rattle.state_messages.specs.declared.grant.LinkGrant.{LinkGrant}
use Rattle.state_messages.specs.Figures.{figure, owed_credit}

-- The consumer last chosen for an address, 0 before the first: that of the last message bound to a link of this address, but for the rows that a link takes up
-- again, and those that are joined to a producer's link.
abbrev pub is_of : List ℕ → Option Link → ℕ → Bool
is_of address None number = false
is_of address (Some l) number = (l.number == number) && bytes_eq l.address address

abbrev pub last_chosen : Trace → List ℕ → ℕ
last_chosen [] address = 0
last_chosen (Did s ∷ t) address = last_chosen t address
last_chosen (Out c i ∷ t) address = last_chosen t address
last_chosen (Took c n ∷ t) address = last_chosen t address
last_chosen (Bound b ∷ t) address = if is_message b.kind && is_of address (link_of t b.consumer) b.consumer.number then b.consumer.number else last_chosen t address
last_chosen (Booked acts full ∷ t) address = last_chosen t address
last_chosen (Routed passage ∷ t) address = last_chosen t address
last_chosen (Began g ∷ t) address = 0

-- the same after this consumer is chosen too, if there is one
abbrev pub last_after : Trace → Option Attachment → List ℕ → ℕ
last_after t None address = last_chosen t address
last_after t (Some a) address = if is_of address (link_of t a) a.number then a.number else last_chosen t address

-- what the links of an address offer and want
abbrev pub pool_of : Trace → List ℕ → Sharing
pool_of t address = sharing (distribution t address) (figure t) (attachments t) (last_chosen t address) address

-- the consumer chosen for an address
unfoldable pub choice_of : Trace → List ℕ → Option ℕ
choice_of t address = choice (pool_of t address)

-- the consumer chosen for a message of a producer's link
abbrev pub consumer_of : Trace → Option Link → Option Attachment
consumer_of t None = None
consumer_of t (Some l) = option_and_then (numbered t) (choice_of t l.address)

-- if this is a consumer, it is the one chosen for a message of a producer's link
abbrev pub IsChosen : Trace → Option Link → Option Attachment → Type 0
IsChosen t l None = Unit {0}
IsChosen t l (Some consumer) = consumer_of t l ≡ Some consumer

-- an attachment's link is durable
abbrev pub lasts : Trace → Attachment → Bool
lasts t at = is_some (durable_key (link_of t at))

-- where the attachments with these numbers are
abbrev pub is_there : Option Attachment → List Attachment
is_there None = []
is_there (Some a) = a ∷ []

abbrev pub places_of : Trace → List ℕ → List Attachment
places_of t [] = []
places_of t (n ∷ ns) = is_there (numbered t n) ++ places_of t ns

-- the consumers that get a copy of a message of a producer's link: none, where the address isn't multicast
unfoldable pub copies_at : Trace → List ℕ → List ℕ
copies_at t address = copies (pool_of t address)

abbrev pub copies_for : Trace → Option Link → List Attachment
copies_for t None = []
copies_for t (Some l) = places_of t (copies_at t l.address)

-- a message of a producer's link, bound to the chosen consumer, if there is one; a durable message comes with the number of its row
abbrev pub binding_to : Trace → Option Origin → Option RowNumber → ℕ → List ℕ → Attachment → Binding
binding_to t origin row format payload at =
    record { consumer = at; row = row; lasting = lasts t at; format = format; payload = payload; kind = kind.Message origin }

abbrev pub binding_for : Trace → Attachment → Option Origin → Option RowNumber → ℕ → List ℕ → Option Binding
binding_for t from origin row format payload = option_map (binding_to t origin row format payload) (consumer_of t (link_of t from))

-- a copy of a message for one consumer: a message by itself, without a producer's delivery and without a row
abbrev pub copy_to : Trace → ℕ → List ℕ → Attachment → Binding
copy_to t format payload at = binding_to t None None format payload at

-- A row that a consumer's link takes up again, and how it is sent: its producer's delivery is that of the delivery which it had until now, if there is one. One
-- that is only settled carries no message.
abbrev pub payload_as : Resumed → List ℕ → List ℕ
payload_as (Settled outcome) payload = []
payload_as _ payload = payload

abbrev pub brings : Trace → RowNumber → Resumed → TakenUp
brings t row how = record { how = how; origin = origin_in (called t (Row row)); told = told_in (called t (Row row)); early = early_in (called t (Row row)); owned = owned_in (called t (Row row)) }

abbrev pub taken_up_by : Trace → RowNumber → Resumed → ℕ → List ℕ → Attachment → Binding
taken_up_by t row how format payload at = record {
  consumer = at;
  row = Some row;
  lasting = lasts t at;
  format = format;
  payload = payload_as how payload;
  kind = kind.TakenUp (brings t row how);
}

-- the trace with a binding, if there is one
abbrev pub with_bound : Option Binding → Trace → Trace
with_bound None t = t
with_bound (Some b) t = Bound b ∷ t

-- the attachment on a handle of the router
abbrev pub standing_at : ℕ → ℕ → ℕ → Link → Attachment
standing_at c o h l = record { number = l.number; conn = record { 0 = c }; channel = o; handle = h }

abbrev pub attachment_at : Trace → ℕ → ℕ → ℕ → Option Attachment
attachment_at t c o h = option_map (standing_at c o h) (link t c o h)

-- A grant gives a producer's delivery-count and all its unused credit, including this much more than before (2.7.4); the first one on a link also what it
-- is owed for what is due.
abbrev pub grant_by : Attachment → ℕ → Happened → List LinkGrant
grant_by a amount (sends list) = []
grant_by a amount (receives list) =
    record { at = a; state = record { handle = a.handle; count = receiving.delivery_count list; credit = receiving.unused list + amount; drain = false } } ∷ []

abbrev pub grant_on : Trace → ℕ → Attachment → ℕ → Option Link → List LinkGrant
grant_on t number a amount None = []
grant_on t number a amount (Some l) = if l.number == number then grant_by a (owed_credit t l + amount) l.happened else []

abbrev pub grant_at : Trace → ℕ → ℕ → Option Attachment → List LinkGrant
grant_at t number amount None = []
grant_at t number amount (Some a) = grant_on t number a amount (link_of t a)

abbrev pub grants_on : Trace → List (ℕ × ℕ) → List LinkGrant
grants_on t [] = []
grants_on t (sum ∷ sums) = grant_at t sum.0 sum.1 (numbered t sum.0) ++ grants_on t sums

-- The address whose grants come first: the lowest in byte order, of those of producers' links that have any, and of the newest link if it is owed credit
-- for what is due. Only the newest can be: it is granted that by the event of its attach.
abbrev pub if_some : List (ℕ × ℕ) → List ℕ → Option (List ℕ)
if_some [] address = None
if_some (sum ∷ sums) address = Some address

abbrev pub wants : Trace → Option Figure → Option (List ℕ)
wants t (Some (producer address unused due kept)) = if_some (grants_of (pool_of t address)) address
wants t _ = None

abbrev pub lower_of : Ordering → List ℕ → List ℕ → List ℕ
lower_of Less a b = a
lower_of _ a b = b

abbrev pub lower : Option (List ℕ) → Option (List ℕ) → Option (List ℕ)
lower None b = b
lower (Some a) None = Some a
lower (Some a) (Some b) = Some (lower_of (slice_cmp nat_cmp a b) a b)

unfoldable pub lowest_below : ℕ → (ℕ → Option (List ℕ)) → Option (List ℕ)
lowest_below zero address = None
lowest_below (suc n) address = lower (lowest_below n address) (address n)

abbrev pub owed_at : Option Link → Option (List ℕ)
owed_at None = None
owed_at (Some l) = if nat_lt 0 l.owes_due then Some l.address else None

unfoldable pub lent_first : Trace → Option (List ℕ)
lent_first t = lowest_below (attachments t + 1) (λ n. wants t (figure t n))

abbrev pub first_address : Trace → Option (List ℕ)
first_address t = lower (lent_first t) (owed_at (numbered_link t (attachments t)))

-- The sums of an address, with the newest link if it is owed credit there: it is the last in order of attach.
abbrev pub with_newest : ℕ → List (ℕ × ℕ) → List (ℕ × ℕ)
with_newest newest sums = if is_some (link_at sums newest) then sums else sums ++ ((newest, 0) ∷ [])

abbrev pub is_owed_at : Option (List ℕ) → List ℕ → Bool
is_owed_at None address = false
is_owed_at (Some owed) address = bytes_eq owed address

abbrev pub sums_at : Trace → List ℕ → List (ℕ × ℕ)
sums_at t address =
    if is_owed_at (owed_at (numbered_link t (attachments t))) address then with_newest (attachments t) (grants_of (pool_of t address)) else grants_of (pool_of t address)

-- the grants that producers are due, in order of attach: those of the first address
abbrev pub grants_of_address : Trace → Option (List ℕ) → List LinkGrant
grants_of_address t None = []
grants_of_address t (Some address) = grants_on t (sums_at t address)

unfoldable pub grants : Trace → List LinkGrant
grants t = grants_of_address t (first_address t)

-- the flows that carry them
abbrev pub grant_flow : LinkGrant → Option Session → List Put
grant_flow g None = []
grant_flow g (Some s) = record { conn = g.at.conn.0; item = link_flow_item g.at.channel (told_of s) g.state } ∷ []

abbrev pub grant_flows : Trace → List LinkGrant → List Put
grant_flows t [] = []
grant_flows t (g ∷ gs) = grant_flow g (session t g.at.conn.0 g.at.channel) ++ grant_flows t gs

abbrev pub grants_due : Trace → List Put
grants_due t = grant_flows t (grants t)
