-- How a peer's disposition changes deliveries, on a session of the router.
use Rattle.std.specs.Prelude.{ℕ, Bool, false, ◌&&◌, if◌then◌else◌, Option, Some, None}
use Rattle.amqp_model.specs.declared.perf.Disposition.{Disposition}
use Rattle.amqp_model.specs.declared.perf.Perf.{Perf}
use Rattle.amqp_model.specs.declared.perf.Perf.TheVariants as perf
use Rattle.amqp_model.specs.declared.perf.Role.{Role}
use Rattle.amqp_model.specs.declared.perf.Role.TheVariants.{Sender, Receiver}
use Rattle.amqp_model.specs.declared.state.DeliveryState.{DeliveryState}
use Rattle.amqp_model.specs.declared.item.Item.{Item}
use Rattle.amqp_model.specs.declared.item.Item.TheVariants as item
use Rattle.router_trace.specs.Deliveries.{Delivery, is_named, is_number, is_id, decision, terminal, last_of}
use Rattle.state_deliveries.specs.declared.change.Change.{Change}
use Rattle.state_deliveries.specs.declared.change.Change.TheVariants as change
use Rattle.state_deliveries.specs.Stepping.{is_in, untold_by, after_change}

abbrev pub decided_by : ℕ → ℕ → Disposition → Option DeliveryState → Option Change
decided_by c own x None = None
decided_by c own x (Some made) = Some (change.Decided c own x.first (last_of x) made)

abbrev pub disposed_change : Role → ℕ → Option ℕ → Disposition → Option Change
disposed_change r c None x = None
disposed_change Sender c (Some own) x = untold_by c own x
disposed_change Receiver c (Some own) x = decided_by c own x (decision x.settled (terminal x.state))

abbrev pub heard_in_change : ℕ → Option ℕ → Perf → Option Change
heard_in_change c own (perf.Disposition x) = disposed_change x.role c own x
heard_in_change c own _ = None

abbrev pub heard_change : ℕ → Option ℕ → Item → Option Change
heard_change c own (item.Frame sasl channel body payload) = if sasl then None else heard_in_change c own body
heard_change c own _ = None

-- a delivery has an id in a range, and this id names it
abbrev pub is_named_in : ℕ → ℕ → (ℕ → Option ℕ) → ℕ → Option Delivery → Bool
is_named_in first last names n None = false
is_named_in first last names n (Some d) = is_in d.id first last && is_named d.id names n

-- how a change changes a delivery: a decision applies only to one that an id names
abbrev pub done_to : Change → (ℕ → ℕ → ℕ → Option ℕ) → ℕ → Option Delivery → Option Delivery
done_to (change.Decided c own first last made) names n v =
    if is_named_in first last (names c own) n v then after_change (change.Decided c own first last made) v else v
done_to x names n v = after_change x v

abbrev pub heard_by : Option Change → (ℕ → ℕ → ℕ → Option ℕ) → ℕ → Option Delivery → Option Delivery
heard_by None names n v = v
heard_by (Some x) names n v = done_to x names n v

-- the id of a delivery, and whether an id names one that has it
abbrev pub id_of : Option Delivery → Option ℕ
id_of None = None
id_of (Some d) = d.id

abbrev pub picks : (ℕ → Option ℕ) → ℕ → Option ℕ → ℕ → Bool
picks names n own_id id = is_id own_id id && is_number (names id) n
