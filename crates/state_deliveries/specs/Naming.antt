-- The deliveries that ids name, as a table has them: the table may forget the name of one that isn't undecided.
use Rattle.std.specs.Prelude.{◌≡◌, ◌<◌, ◌^◌, ℕ, Bool, false, if◌then◌else◌, Option, Some, None}
use Rattle.amqp_model.specs.declared.perf.Perf.{Perf}
use Rattle.amqp_model.specs.declared.perf.Perf.TheVariants as perf
use Rattle.amqp_model.specs.declared.item.Item.{Item}
use Rattle.amqp_model.specs.declared.item.Item.TheVariants as item
use Rattle.router_trace.specs.Trace.{Trace}
use Rattle.router_trace.specs.Deliveries.{Delivery, is_undecided, delivery, named}
use Rattle.router_trace.specs.Settling.{is_open_as}
use Rattle.state_deliveries.specs.declared.names.Names.{Names}
use Rattle.state_deliveries.specs.declared.change.Change.TheVariants as change
use Rattle.state_deliveries.specs.declared.change.Gone.TheVariants as gone
use Rattle.state_deliveries.specs.Indexing.{Keys, concerns}
use Rattle.state_collections.specs.Ids.{at_id}

abbrev pub is_open : Option Delivery → Bool
is_open None = false
is_open (Some d) = is_undecided d

-- the number of a delivery that isn't undecided
abbrev pub MayBeForgotten : Trace → Option ℕ → Type 0
MayBeForgotten t None = Unit {0}
MayBeForgotten t (Some n) = is_open (delivery t n) ≡ false

-- the table's entry, and the delivery that the id names
abbrev pub Remembers : Trace → Option ℕ → Option ℕ → Type 0
Remembers t (Some n) named = named ≡ Some n
Remembers t None named = MayBeForgotten t named

-- an entry that stays, or that is forgotten after its delivery isn't undecided
abbrev pub IsClosed : (ℕ → Option Delivery) → Option ℕ → Type 0
IsClosed known None = Unit {0}
IsClosed known (Some n) = is_open (known n) ≡ false

abbrev pub Forgets : (ℕ → Option Delivery) → Option ℕ → Option ℕ → Type 0
Forgets known (Some n) old = old ≡ Some n
Forgets known None old = IsClosed known old

-- ids have 32 bits
abbrev pub IsSmall : ℕ → Option ℕ → Type 0
IsSmall id None = Unit {0}
IsSmall id (Some n) = id < 2 ^ 32

abbrev pub AreSmall : (ℕ → ℕ → ℕ → Option ℕ) → Type 0
AreSmall known = (c o id : ℕ) → IsSmall id (known c o id)

pub record NamesFit (s : Names) (t : Trace) : Type 0 where
  pub names : (c o id : ℕ) → Remembers t (at_id s.ids c o id) (named t c o id)
  pub small : AreSmall (at_id s.ids)

-- a number that is kept: its delivery is undecided
abbrev pub kept_name : Option ℕ → (ℕ → Option Delivery) → Option ℕ
kept_name None known = None
kept_name (Some n) known = if is_open (known n) then Some n else None

-- the session on which the router detaches a link
abbrev pub detached_in_body : Perf → ℕ → Option ℕ
detached_in_body (perf.Detach x) own = Some own
detached_in_body _ own = None

abbrev pub detached_in : Item → Option ℕ
detached_in (item.Frame sasl own body payload) = detached_in_body body own
detached_in _ = None

-- a delivery with these entries is on a link that an item of the router detaches, or comes from such a link
abbrev pub is_detached_in : Perf → ℕ → ℕ → Keys → Bool
is_detached_in (perf.Detach x) c own k = concerns (change.Ends (gone.Link c own x.handle) false) k
is_detached_in _ c own k = false

abbrev pub is_detached : Item → ℕ → Keys → Bool
is_detached (item.Frame sasl own body payload) c k = is_detached_in body c own k
is_detached _ c k = false

-- whether a name is that of an undecided delivery, and of one of a session that has this id
abbrev pub uses : (ℕ → Option Delivery) → Option ℕ → Bool
uses known None = false
uses known (Some n) = is_open (known n)

abbrev pub opens : (ℕ → Option Delivery) → ℕ → ℕ → ℕ → Option ℕ → Bool
opens known c o id None = false
opens known c o id (Some n) = is_open_as c o id (known n)
