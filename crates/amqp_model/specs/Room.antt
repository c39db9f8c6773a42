-- The room in a frame.
use Rattle.std.specs.Prelude.{ℕ, ◌≤◌, false, List, Option, Some, None}
use Rattle.amqp_model.specs.declared.perf.Transfer.{Transfer}
use Rattle.amqp_model.specs.declared.perf.Perf.TheVariants as perf
use Rattle.amqp_model.specs.declared.item.Item.{Item}
use Rattle.amqp_model.specs.declared.item.Item.TheVariants as item

-- a transfer with its payload
abbrev pub transfer_frame : ℕ → Transfer → List ℕ → Item
transfer_frame channel x payload = item.Frame false channel (perf.Transfer x) payload

-- this many bytes fit into the room; where there is no room, not even an empty payload fits
abbrev pub FitsInto : Option ℕ → ℕ → Type 0
FitsInto None len = ⊥
FitsInto (Some room) len = len ≤ room
