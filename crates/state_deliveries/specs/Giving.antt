-- How the acts of an attach change a delivery.
use Rattle.std.specs.Prelude.{Bool, true, false, not, ◌&&◌, List, [], ◌∷◌, ◌++◌, Option, Some, None, option_and_then}
use Rattle.amqp_model.specs.declared.perf.Perf.{Perf}
use Rattle.amqp_model.specs.declared.perf.Perf.TheVariants as perf
use Rattle.amqp_model.specs.declared.item.Item.{Item}
use Rattle.amqp_model.specs.declared.item.Item.TheVariants as item
use Rattle.amqp_model.specs.declared.state.DeliveryState.{DeliveryState}
use Rattle.book_model.specs.declared.act.Act.{Act}
use Rattle.router_trace.specs.Deliveries.{Delivery, given, outcome_or, unless_over}
use Rattle.state_deliveries.specs.declared.spots.Spot.{Spot}

-- a delivery with this outcome, if it has none
abbrev pub with_outcome : DeliveryState → Delivery → Delivery
with_outcome outcome d = record d { outcome = outcome_or d.outcome (Some outcome) }

-- a delivery that may exist, after these acts gave its row an outcome; it is removed once it is over
abbrev pub after_acts : List Act → Option Delivery → Option Delivery
after_acts acts v = option_and_then (λ d. unless_over (given acts d)) v

-- places, with one more if there is one
abbrev pub with_place : List Spot → Option Spot → List Spot
with_place places None = places
with_place places (Some place) = places ++ (place ∷ [])

-- an item is an attach
abbrev pub attaches_in : Perf → Bool
attaches_in (perf.Attach x) = true
attaches_in _ = false

abbrev pub attaches : Item → Bool
attaches (item.Frame sasl channel body payload) = not sasl && attaches_in body
attaches _ = false
