-- Deliveries by their names.
use Rattle.std.specs.Prelude.{◌≡◌, ℕ, Bool, false, Option, Some, None}
use Rattle.state_collections.specs.NumberMap.{at_number}
use Rattle.router_trace.specs.declared.binding.DeliveryName.{DeliveryName}
use Rattle.router_trace.specs.declared.binding.DeliveryName.TheVariants.{Row, Counter}
use Rattle.router_trace.specs.Trace.{Trace}
use Rattle.router_trace.specs.Deliveries.{Delivery, same_name, delivery, number_named, is_number}
use Rattle.state_deliveries.specs.declared.by_name.ByName.{ByName}

-- the number that a table has for a name
abbrev pub at_name : ByName → DeliveryName → Option ℕ
at_name s (Row r) = at_number s.rows r.0
at_name s (Counter k) = at_number s.counters k

-- each delivery stands under its name, and no name has another number
abbrev pub is_called : DeliveryName → Option Delivery → Bool
is_called name None = false
is_called name (Some d) = same_name d.name name

abbrev pub AreCalled : ByName → (ℕ → Option Delivery) → Type 0
AreCalled s known = (name : DeliveryName) (n : ℕ) → is_number (at_name s name) n ≡ is_called name (known n)

-- A number that a table has, and that of the trace: the same, or the table has none and the delivery is gone.
abbrev pub IsGone : (ℕ → Option Delivery) → Option ℕ → Type 0
IsGone known None = Unit {0}
IsGone known (Some n) = known n ≡ None

abbrev pub Knows : (ℕ → Option Delivery) → Option ℕ → Option ℕ → Type 0
Knows known (Some n) number = number ≡ Some n
Knows known None number = IsGone known number

-- a table has the number of each name, but for those of deliveries that are gone
abbrev pub NumbersFit : ByName → Trace → Type 0
NumbersFit s t = (name : DeliveryName) → Knows (delivery t) (at_name s name) (number_named t name)
