-- The delivery frames that the router writes (AMQP 1.0 part 2, sections 2.7.5 and 2.7.6), and outcomes as it keeps them.
use Rattle.std.specs.Prelude.{ℕ, Bool, true, false, ◌||◌, nat_lt, if◌then◌else◌, List, length, take, drop, min, codes, Option, Some, None, option_map}
use Rattle.amqp_model.specs.PerfSpelling.{state_spelling}
use Rattle.amqp_model.specs.declared.perf.Perf.TheVariants as perf
use Rattle.amqp_model.specs.declared.perf.Role.{Role}
use Rattle.amqp_model.specs.declared.perf.Transfer.{Transfer}
use Rattle.amqp_model.specs.declared.state.DeliveryState.{DeliveryState}
use Rattle.amqp_model.specs.declared.state.DeliveryState.TheVariants as state
use Rattle.amqp_model.specs.declared.state.Fault.{Fault}
use Rattle.amqp_model.specs.declared.item.Item.{Item}
use Rattle.amqp_model.specs.Room.{transfer_frame}
use Rattle.router_trace.specs.Deliveries.{Delivery, settles, tag_of}
use Rattle.router_trace.specs.Frames.{frame_on}
use Rattle.router_trace.specs.LinkFrames.{fits}
use Rattle.router_trace.specs.Numbers.{most_of}

-- An outcome as the router keeps it: an error has no description, and a condition of more than 128 bytes becomes internal-error;
-- if the outcome is still longer than 400 bytes, its info or its annotations are dropped.
abbrev pub kept_condition : List ℕ → List ℕ
kept_condition text = if nat_lt 128 (length text) then codes "amqp:internal-error" else text

abbrev pub kept_error : Fault → Fault
kept_error f = record { condition = kept_condition f.condition; description = None; info = f.info }

abbrev pub undescribed : DeliveryState → DeliveryState
undescribed (state.Rejected r) = state.Rejected (record { error = option_map kept_error r.error })
undescribed s = s

abbrev pub without_info : Fault → Fault
without_info f = record f { info = None }

abbrev pub bare : DeliveryState → DeliveryState
bare (state.Rejected r) = state.Rejected (record { error = option_map without_info r.error })
bare (state.Modified m) = state.Modified (record m { message_annotations = None })
bare s = s

abbrev pub unless_long : DeliveryState → DeliveryState
unless_long s = if nat_lt 400 (length (state_spelling s)) then bare s else s

abbrev pub kept_outcome : DeliveryState → DeliveryState
kept_outcome s = unless_long (undescribed s)

-- The router's disposition of one delivery, which settles it or not.
abbrev pub outcome_item : ℕ → Role → ℕ → Bool → DeliveryState → Item
outcome_item own role id settled s =
    frame_on own (perf.Disposition (record { role = role; first = id; last = None; settled = settled; state = Some (kept_outcome s); batchable = false }))

-- A transfer of the router: the first of a delivery has its id, tag and format, and says whether it is resumed; a later one has none of them. Each says
-- whether the delivery was settled before. One that only settles a delivery has its outcome (2.6.13).
abbrev pub outcome_if : Bool → Option DeliveryState → Option DeliveryState
outcome_if b outcome = if b then outcome else None

abbrev pub first_transfer : ℕ → ℕ → Delivery → Transfer
first_transfer handle id d = record {
  handle = handle;
  delivery_id = Some id;
  delivery_tag = Some (record { items = tag_of d.name });
  message_format = Some d.format;
  settled = d.presettled || settles d;
  more = false;
  rcv_settle_mode = None;
  state = outcome_if (settles d) d.outcome;
  resume = d.resumed;
  aborted = false;
  batchable = false;
}

abbrev pub later_transfer : ℕ → Delivery → Transfer
later_transfer handle d = record {
  handle = handle;
  delivery_id = None;
  delivery_tag = None;
  message_format = None;
  settled = d.presettled;
  more = false;
  rcv_settle_mode = None;
  state = None;
  resume = false;
  aborted = false;
  batchable = false;
}

-- A frame has the whole rest of a message if that fits; else as many bytes of it as fit, and `more` is set.
abbrev pub largest_out : ℕ → ℕ
largest_out theirs = min theirs 16384

abbrev pub with_more : Transfer → Transfer
with_more x = record x { more = true }

abbrev pub part_frame : ℕ → Transfer → List ℕ → ℕ → Item
part_frame own x rest n = transfer_frame own (with_more x) (take n rest)

abbrev pub filled : ℕ → ℕ → Transfer → List ℕ → ℕ
filled largest own x rest = most_of (length rest) (λ n. fits largest (part_frame own x rest n))

abbrev pub next_frame : ℕ → ℕ → Transfer → List ℕ → Item
next_frame largest own x rest =
    if fits largest (transfer_frame own x rest) then transfer_frame own x rest else part_frame own x rest (filled largest own x rest)

-- the bytes of a delivery that remain to be sent
abbrev pub rest_of : Delivery → List ℕ
rest_of d = drop d.sent d.payload
