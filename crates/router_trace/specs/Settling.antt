-- What a peer's dispositions and transfers refer to: the deliveries that a range of ids names, in order, and what a transfer makes of its delivery (AMQP
-- 1.0 part 2, sections 2.6.12, 2.6.14, 2.7.5 and 2.7.6).
use Rattle.std.specs.Prelude.{ℕ, zero, suc, ◌+◌, ◌%◌, ◌^◌, Bool, false, ◌&&◌, ◌==◌, nat_lt, nat_eq, if◌then◌else◌, is_some, List, [], ◌∷◌, ◌++◌, filter, bytes_eq, Option, Some, None}
use Rattle.amqp_model.specs.declared.perf.Perf.{Perf}
use Rattle.amqp_model.specs.declared.perf.Perf.TheVariants as perf
use Rattle.amqp_model.specs.declared.perf.Transfer.{Transfer}
use Rattle.amqp_model.specs.declared.item.Item.{Item}
use Rattle.amqp_model.specs.declared.item.Item.TheVariants as item
use Rattle.amqp_session.specs.Serials.{distance}
use Rattle.amqp_link.specs.declared.part.Delivery.{Delivery as Told}
use Rattle.amqp_link.specs.declared.part.Part.{Part}
use Rattle.amqp_link.specs.Deliveries.{Frame, frame, delivery as told_of}
use Rattle.amqp_link.specs.Receiving.{middle, given}
use Rattle.router_trace.specs.Trace.{Trace}
use Rattle.router_trace.specs.Links.{LinkPlace, on, Happened, sends, receives, link_place}
use Rattle.router_trace.specs.Deliveries.{Delivery, delivery, named, stands_on, is_undecided, is_id}
use Rattle.router_trace.specs.Claims.{Claim, claims}
use Rattle.router_trace.specs.Numbers.{count_below, first_below}

-- this many ids, from the first on
unfoldable pub ids_from : ℕ → ℕ → List ℕ
ids_from first zero = []
ids_from first (suc n) = ids_from first n ++ (first + n) % 2 ^ 32 ∷ []

-- the ids of a range, in order; none if the last is before the first
abbrev pub ids_between : ℕ → ℕ → List ℕ
ids_between first last = if nat_lt (distance first last) (2 ^ 31) then ids_from first (distance first last + 1) else []

-- an id names an undecided delivery of the session of a channel of the router
abbrev pub is_open_as : ℕ → ℕ → ℕ → Option Delivery → Bool
is_open_as c o id None = false
is_open_as c o id (Some d) = is_undecided d && (stands_on d.link c o && is_id d.id id)

abbrev pub names_open : Trace → ℕ → ℕ → ℕ → Option ℕ → Bool
names_open t c o id None = false
names_open t c o id (Some n) = is_open_as c o id (delivery t n)

abbrev pub is_open_id : Trace → ℕ → ℕ → ℕ → Bool
is_open_id t c o id = names_open t c o id (named t c o id)

-- the ids of a range that do, in order
abbrev pub open_ids : Trace → ℕ → ℕ → ℕ → ℕ → List ℕ
open_ids t c o first last = filter (is_open_id t c o) (ids_between first last)

-- a peer has not settled the delivery of an id of its own
abbrev pub is_claimed : Trace → ℕ → ℕ → ℕ → Bool
is_claimed t c o id = is_some (claims t c o id)

-- the ids of a range for which this holds, in order
abbrev pub ids_claimed : Trace → ℕ → ℕ → ℕ → ℕ → List ℕ
ids_claimed t c o first last = filter (is_claimed t c o) (ids_between first last)

-- ... a delivery of the link on this handle of the router
abbrev pub is_of_link : ℕ → Option Claim → Bool
is_of_link h None = false
is_of_link h (Some v) = v.handle == h

abbrev pub is_claimed_on : Trace → ℕ → ℕ → ℕ → ℕ → Bool
is_claimed_on t c o h id = is_of_link h (claims t c o id)

-- how many unsettled deliveries of a link came whole and are bound to no consumer
abbrev pub is_unbound_on : ℕ → Option Claim → Bool
is_unbound_on h None = false
is_unbound_on h (Some v) = if v.unbound then nat_eq v.handle h else false

abbrev pub unbound : Trace → ℕ → ℕ → ℕ → ℕ
unbound t c o h = count_below (2 ^ 32) (λ id. is_unbound_on h (claims t c o id))

-- an unsettled delivery of a link has this delivery-tag
abbrev pub is_tag : Option (List ℕ) → List ℕ → Bool
is_tag None tag = false
is_tag (Some own) tag = bytes_eq own tag

abbrev pub is_tagged_on : ℕ → List ℕ → Option Claim → Bool
is_tagged_on h tag None = false
is_tagged_on h tag (Some v) = (v.handle == h) && is_tag v.tag tag

abbrev pub uses_tag : Trace → ℕ → ℕ → ℕ → List ℕ → Bool
uses_tag t c o h tag = is_some (first_below (2 ^ 32) (λ id. is_tagged_on h tag (claims t c o id)))

-- the delivery in the middle of a link, as its first frame describes it
abbrev pub told_first : List Frame → Option Told
told_first [] = None
told_first (f ∷ fs) = Some (told_of f fs)

abbrev pub middle_by : Happened → Option Told
middle_by (sends list) = None
middle_by (receives list) = told_first (middle list)

abbrev pub middle_on : LinkPlace → Option Told
middle_on (on h l) = middle_by l.happened
middle_on _ = None

-- what a transfer makes of its delivery, on the link that it names
abbrev pub part_by : Transfer → List ℕ → Happened → Option Part
part_by x payload (sends list) = None
part_by x payload (receives list) = Some (given (frame x payload) list)

abbrev pub part_on : Transfer → List ℕ → LinkPlace → Option Part
part_on x payload (on h l) = part_by x payload l.happened
part_on x payload _ = None

abbrev pub part_in : Perf → List ℕ → (ℕ → LinkPlace) → Option Part
part_in (perf.Transfer x) payload places = part_on x payload (places x.handle)
part_in _ payload places = None

abbrev pub part_of : Item → (ℕ → LinkPlace) → Option Part
part_of (item.Frame sasl channel body payload) places = if sasl then None else part_in body payload places
part_of _ places = None

-- on the session of the router's channel, if the item's channel stands for one
abbrev pub part_at : Trace → ℕ → Option ℕ → Item → Option Part
part_at t c None i = None
part_at t c (Some o) i = part_of i (link_place t c o)
