-- Sources and targets, field by field (AMQP 1.0 part 3, sections 3.5.3 and 3.5.4).
use Rattle.std.specs.Prelude.{ℕ, ◌-◌, List, Option, Some, None, Result, Ok}
use Rattle.std.specs.Option.{unwrap_or}
use Rattle.amqp_model.specs.declared.perf_fault.PerfFault.{PerfFault}
use Rattle.amqp_model.specs.declared.perf_fault.PerfFault.TheVariants as fault
use Rattle.amqp_model.specs.declared.descriptor.Descriptor.TheVariants as is
use Rattle.amqp_perf.specs.declared.opening.Opening.{Opening}
use Rattle.amqp_perf.specs.declared.opening.Opening.TheVariants as opening
use Rattle.amqp_model.specs.declared.terminus.Source.{Source}
use Rattle.amqp_model.specs.declared.terminus.Target.{Target}
use Rattle.amqp_perf.specs.declared.read_termini.NodeFields.{NodeFields}
use Rattle.amqp_perf.specs.declared.read_termini.SourceChoices.{SourceChoices}
use Rattle.amqp_model.specs.declared.terminus.SourceTerminus.{SourceTerminus}
use Rattle.amqp_model.specs.declared.terminus.SourceTerminus.TheVariants as source
use Rattle.amqp_model.specs.declared.terminus.TargetTerminus.{TargetTerminus}
use Rattle.amqp_model.specs.declared.terminus.TargetTerminus.TheVariants as target
use Rattle.amqp_model.specs.PerfSpelling.{session_end}
use Rattle.amqp_perf.specs.Faults.{◌>>=◌}
use Rattle.amqp_perf.specs.Fields.{At, Takes, ended, in_place, refused, carried, opening_at, listed, flag, uint, symbol, symbols, map, address_at}
use Rattle.amqp_perf.specs.States.{state_at}

-- the fields that a source and a target begin with
unfoldable pub node_at : Takes NodeFields
node_at at = do
  address ← address_at at
  durable ← uint address.1
  expiry_policy ← symbol durable.1
  timeout ← uint expiry_policy.1
  dynamic ← flag timeout.1
  dynamic_node_properties ← map dynamic.1
  Ok (
    record {
      address = address.0;
      durable = unwrap_or durable.0 0;
      expiry_policy = unwrap_or expiry_policy.0 session_end;
      timeout = unwrap_or timeout.0 0;
      dynamic = dynamic.0;
      dynamic_node_properties = dynamic_node_properties.0;
    },
    dynamic_node_properties.1,
  )

-- the further fields of a source
unfoldable pub choices_fields : At → Result SourceChoices PerfFault
choices_fields at = do
  distribution_mode ← symbol at
  filter ← map distribution_mode.1
  default_outcome ← state_at filter.1
  outcomes ← symbols default_outcome.1
  capabilities ← symbols outcomes.1
  _ ← ended capabilities.1
  Ok (record {
    distribution_mode = distribution_mode.0;
    filter = filter.0;
    default_outcome = default_outcome.0;
    outcomes = outcomes.0;
    capabilities = capabilities.0;
  })

unfoldable pub source_fields : At → Result Source PerfFault
source_fields at = do
  node ← node_at at
  choices ← choices_fields node.1
  Ok (record {
    address = node.0.address;
    durable = node.0.durable;
    expiry_policy = node.0.expiry_policy;
    timeout = node.0.timeout;
    dynamic = node.0.dynamic;
    dynamic_node_properties = node.0.dynamic_node_properties;
    distribution_mode = choices.distribution_mode;
    filter = choices.filter;
    default_outcome = choices.default_outcome;
    outcomes = choices.outcomes;
    capabilities = choices.capabilities;
  })

unfoldable pub target_fields : At → Result Target PerfFault
target_fields at = do
  node ← node_at at
  capabilities ← symbols node.1
  _ ← ended capabilities.1
  Ok (record {
    address = node.0.address;
    durable = node.0.durable;
    expiry_policy = node.0.expiry_policy;
    timeout = node.0.timeout;
    dynamic = node.0.dynamic;
    dynamic_node_properties = node.0.dynamic_node_properties;
    capabilities = capabilities.0;
  })

-- a terminus with another descriptor is carried unread
abbrev pub source_by : ℕ → List ℕ → Opening × List ℕ → Result (Option SourceTerminus × List ℕ) PerfFault
source_by depth bytes (opening.Null, rest) = Ok (None, rest)
source_by depth bytes (opening.Other, rest) = refused depth bytes
source_by depth bytes (opening.Described (Some is.Source), rest) = do
  list ← listed (depth - 1) 11 fault.WrongKind rest
  terminus ← source_fields list.0
  Ok (Some (source.Source terminus), list.1)
source_by depth bytes (opening.Described _, rest) = carried depth bytes >>= λ x. Ok (Some (source.Other x.0), x.1)

unfoldable pub source_in : ℕ → List ℕ → Result (Option SourceTerminus × List ℕ) PerfFault
source_in depth bytes = opening_at depth bytes >>= source_by depth bytes

unfoldable pub source_at : Takes (Option SourceTerminus)
source_at at = in_place source_in at

abbrev pub target_by : ℕ → List ℕ → Opening × List ℕ → Result (Option TargetTerminus × List ℕ) PerfFault
target_by depth bytes (opening.Null, rest) = Ok (None, rest)
target_by depth bytes (opening.Other, rest) = refused depth bytes
target_by depth bytes (opening.Described (Some is.Target), rest) = do
  list ← listed (depth - 1) 7 fault.WrongKind rest
  terminus ← target_fields list.0
  Ok (Some (target.Target terminus), list.1)
target_by depth bytes (opening.Described _, rest) = carried depth bytes >>= λ x. Ok (Some (target.Other x.0), x.1)

unfoldable pub target_in : ℕ → List ℕ → Result (Option TargetTerminus × List ℕ) PerfFault
target_in depth bytes = opening_at depth bytes >>= target_by depth bytes

unfoldable pub target_at : Takes (Option TargetTerminus)
target_at at = in_place target_in at
