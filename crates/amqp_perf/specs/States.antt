-- Errors, delivery states and unsettled maps, field by field (AMQP 1.0 part 2, section 2.8.14; part 3, section 3.4; part
-- 2, section 2.7.3).
use Rattle.std.specs.Prelude.{ℕ, nat_eq, zero, suc, ◌-◌, ◌/◌, Bool, List, [], ◌∷◌, ◌++◌, Option, Some, None, Result, Ok, Err, if◌then◌else◌}
use Rattle.std.specs.List.{list_any}
use Rattle.std.specs.Cmp.Lexicographic.{pointwise}
use Rattle.arrayvec.specs.ArrayVec.{ArrayVec}
use Rattle.amqp_model.specs.declared.code.Leaf.TheVariants as leaf
use Rattle.amqp_model.specs.declared.code.Code.{Code}
use Rattle.amqp_model.specs.declared.code.Code.TheVariants as code
use Rattle.amqp_types.specs.Reading.{after, code_at, size_at, sized_at, value_at}
use Rattle.amqp_model.specs.declared.perf_fault.PerfFault.{PerfFault}
use Rattle.amqp_model.specs.declared.perf_fault.PerfFault.TheVariants as fault
use Rattle.amqp_model.specs.declared.descriptor.Descriptor.TheVariants as is
use Rattle.amqp_perf.specs.declared.opening.Opening.{Opening}
use Rattle.amqp_perf.specs.declared.opening.Opening.TheVariants as opening
use Rattle.amqp_model.specs.declared.state.Fault.{Fault}
use Rattle.amqp_model.specs.declared.state.Received.{Received}
use Rattle.amqp_model.specs.declared.state.Rejected.{Rejected}
use Rattle.amqp_model.specs.declared.state.Modified.{Modified}
use Rattle.amqp_model.specs.declared.state.DeliveryState.{DeliveryState}
use Rattle.amqp_model.specs.declared.state.DeliveryState.TheVariants as state
use Rattle.amqp_model.specs.declared.state.UnsettledDelivery.{UnsettledDelivery}
use Rattle.amqp_perf.specs.Faults.{inner, by_fault, ◌>>=◌}
use Rattle.amqp_model.specs.PerfFaults.{outer}
use Rattle.amqp_perf.specs.Fields.{At, Takes, ended, in_place, refused, carried, opening_at, listed, tag, flag, required_uint, required_ulong, text, required_symbol, map}

-- error (part 2, section 2.8.14)
unfoldable pub error_fields : At → Result Fault PerfFault
error_fields at = do
  condition ← required_symbol at
  description ← text condition.1
  info ← map description.1
  _ ← ended info.1
  Ok (record { condition = condition.0; description = description.0; info = info.0 })

abbrev pub error_by : ℕ → List ℕ → Opening × List ℕ → Result (Option Fault × List ℕ) PerfFault
error_by depth bytes (opening.Null, rest) = Ok (None, rest)
error_by depth bytes (opening.Described (Some is.Error), rest) = do
  list ← listed (depth - 1) 3 fault.WrongKind rest
  error ← error_fields list.0
  Ok (Some error, list.1)
error_by depth bytes _ = refused depth bytes

unfoldable pub error_in : ℕ → List ℕ → Result (Option Fault × List ℕ) PerfFault
error_in depth bytes = opening_at depth bytes >>= error_by depth bytes

unfoldable pub error_at : Takes (Option Fault)
error_at at = in_place error_in at

-- received, accepted, rejected, released, modified (part 3, sections 3.4.1 to 3.4.5)
unfoldable pub received_fields : At → Result Received PerfFault
received_fields at = do
  section_number ← required_uint at
  section_offset ← required_ulong section_number.1
  _ ← ended section_offset.1
  Ok (record { section_number = section_number.0; section_offset = section_offset.0 })

unfoldable pub rejected_fields : At → Result Rejected PerfFault
rejected_fields at = do
  error ← error_at at
  _ ← ended error.1
  Ok (record { error = error.0 })

unfoldable pub modified_fields : At → Result Modified PerfFault
modified_fields at = do
  delivery_failed ← flag at
  undeliverable_here ← flag delivery_failed.1
  message_annotations ← map undeliverable_here.1
  _ ← ended message_annotations.1
  Ok (record { delivery_failed = delivery_failed.0; undeliverable_here = undeliverable_here.0; message_annotations = message_annotations.0 })

-- the state after a descriptor; another descriptor is carried unread
abbrev pub state_by : ℕ → List ℕ → Opening × List ℕ → Result (Option DeliveryState × List ℕ) PerfFault
state_by depth bytes (opening.Null, rest) = Ok (None, rest)
state_by depth bytes (opening.Other, rest) = refused depth bytes
state_by depth bytes (opening.Described (Some is.Received), rest) = do
  list ← listed (depth - 1) 2 fault.WrongKind rest
  received ← received_fields list.0
  Ok (Some (state.Received received), list.1)
state_by depth bytes (opening.Described (Some is.Accepted), rest) = do
  list ← listed (depth - 1) 0 fault.WrongKind rest
  _ ← ended list.0
  Ok (Some state.Accepted, list.1)
state_by depth bytes (opening.Described (Some is.Rejected), rest) = do
  list ← listed (depth - 1) 1 fault.WrongKind rest
  rejected ← rejected_fields list.0
  Ok (Some (state.Rejected rejected), list.1)
state_by depth bytes (opening.Described (Some is.Released), rest) = do
  list ← listed (depth - 1) 0 fault.WrongKind rest
  _ ← ended list.0
  Ok (Some state.Released, list.1)
state_by depth bytes (opening.Described (Some is.Modified), rest) = do
  list ← listed (depth - 1) 3 fault.WrongKind rest
  modified ← modified_fields list.0
  Ok (Some (state.Modified modified), list.1)
state_by depth bytes (opening.Described _, rest) = carried depth bytes >>= λ x. Ok (Some (state.Other x.0), x.1)

unfoldable pub state_in : ℕ → List ℕ → Result (Option DeliveryState × List ℕ) PerfFault
state_in depth bytes = opening_at depth bytes >>= state_by depth bytes

unfoldable pub state_at : Takes (Option DeliveryState)
state_at at = in_place state_in at

-- An unsettled map: tags, each once, with states or null. It is decoded whole first.
abbrev pub some_tag : Option (ArrayVec ℕ) × At → Result (ArrayVec ℕ × At) PerfFault
some_tag (None, at) = Err fault.WrongKind
some_tag (Some tag, at) = Ok (tag, at)

unfoldable pub tag_key : Takes (ArrayVec ℕ)
tag_key at = tag at >>= some_tag

abbrev pub is_among : List UnsettledDelivery → ArrayVec ℕ → Bool
is_among deliveries tag = list_any (λ other. pointwise nat_eq other.tag.items tag.items) deliveries

abbrev pub not_among : List UnsettledDelivery → ArrayVec ℕ → Result (Unit {0}) PerfFault
not_among deliveries tag = if is_among deliveries tag then Err fault.DuplicateTag else Ok tt

-- this many deliveries more, after these
unfoldable pub deliveries_at : List UnsettledDelivery → ℕ → At → Result (List UnsettledDelivery) PerfFault
deliveries_at before zero at = Ok before
deliveries_at before (suc n) at = do
  tag ← tag_key at
  _ ← not_among before tag.0
  state ← state_at tag.1
  deliveries_at (before ++ record { tag = tag.0; state = state.0 } ∷ []) n state.1

abbrev pub unsettled_by : ℕ → List ℕ → Code × List ℕ → Result (Option (List UnsettledDelivery)) PerfFault
unsettled_by depth bytes (code.Leaf leaf.Null, rest) = Ok None
unsettled_by depth bytes (code.Map s, rest) = do
  inside ← by_fault outer (sized_at s rest)
  count ← by_fault inner (size_at s inside.0)
  deliveries ← deliveries_at [] (count.0 / 2) (record { depth = depth - 1; left = count.0; bytes = count.1 })
  Ok (Some deliveries)
unsettled_by depth bytes _ = Err fault.WrongKind

unfoldable pub unsettled_in : ℕ → List ℕ → Result (Option (List UnsettledDelivery) × List ℕ) PerfFault
unsettled_in depth bytes = do
  behind ← by_fault outer (after (value_at depth bytes))
  opened ← by_fault outer (code_at bytes)
  unsettled ← unsettled_by depth bytes opened
  Ok (unsettled, behind)

unfoldable pub unsettled_at : Takes (Option (List UnsettledDelivery))
unsettled_at at = in_place unsettled_in at
