-- The performatives and the SASL bodies, field by field, in the standard's order and under its names (AMQP 1.0 part 2,
-- section 2.7; part 5, section 5.3.3).
use Rattle.std.specs.Prelude.{ℕ, ◌-◌, Bool, true, false, List, length, Option, Some, None, Result, Ok, Err}
use Rattle.std.specs.Option.{unwrap_or}
use Rattle.amqp_types.specs.Reading.{after, value_at}
use Rattle.amqp_model.specs.declared.perf_fault.PerfFault.{PerfFault}
use Rattle.amqp_model.specs.declared.perf_fault.PerfFault.TheVariants as fault
use Rattle.amqp_model.specs.declared.descriptor.Descriptor.{Descriptor}
use Rattle.amqp_model.specs.declared.descriptor.Descriptor.TheVariants as is
use Rattle.amqp_perf.specs.declared.opening.Opening.{Opening}
use Rattle.amqp_perf.specs.declared.opening.Opening.TheVariants as opening
use Rattle.amqp_model.specs.declared.perf.Open.{Open}
use Rattle.amqp_model.specs.declared.perf.Begin.{Begin}
use Rattle.amqp_model.specs.declared.perf.Attach.{Attach}
use Rattle.amqp_model.specs.declared.perf.Flow.{Flow}
use Rattle.amqp_model.specs.declared.perf.Transfer.{Transfer}
use Rattle.amqp_model.specs.declared.perf.Disposition.{Disposition}
use Rattle.amqp_model.specs.declared.perf.Detach.{Detach}
use Rattle.amqp_model.specs.declared.perf.End.{End}
use Rattle.amqp_model.specs.declared.perf.Close.{Close}
use Rattle.amqp_model.specs.declared.perf.SaslMechanisms.{SaslMechanisms}
use Rattle.amqp_model.specs.declared.perf.SaslInit.{SaslInit}
use Rattle.amqp_model.specs.declared.perf.SaslChallenge.{SaslChallenge}
use Rattle.amqp_model.specs.declared.perf.SaslResponse.{SaslResponse}
use Rattle.amqp_model.specs.declared.perf.SaslOutcome.{SaslOutcome}
use Rattle.amqp_perf.specs.declared.read_perfs.LinkEnds.{LinkEnds}
use Rattle.amqp_perf.specs.declared.read_perfs.LinkHoldings.{LinkHoldings}
use Rattle.amqp_perf.specs.declared.read_perfs.LinkExtras.{LinkExtras}
use Rattle.amqp_model.specs.declared.perf.Role.{Role}
use Rattle.amqp_model.specs.declared.perf.Role.TheVariants as role
use Rattle.amqp_model.specs.declared.perf.Perf.{Perf}
use Rattle.amqp_model.specs.declared.perf.Perf.TheVariants as perf
use Rattle.amqp_model.specs.declared.state.DeliveryState.{DeliveryState}
use Rattle.amqp_perf.specs.Faults.{by_fault, ◌>>=◌}
use Rattle.amqp_model.specs.PerfFaults.{outer}
use Rattle.amqp_perf.specs.Fields.{At, Takes, ended, opening_at, listed, flag, required_flag, ubyte, required_ubyte, ushort, uint, required_uint, ulong, text, required_text, required_symbol, symbols, required_symbols, binary, required_binary, tag, map}
use Rattle.amqp_perf.specs.States.{error_at, state_at, state_in, unsettled_at}
use Rattle.amqp_perf.specs.Termini.{source_at, target_at}

-- false is a sender (part 2, section 2.8.1)
abbrev pub role_of : Bool → Role
role_of false = role.Sender
role_of true = role.Receiver

unfoldable pub required_role : Takes Role
required_role at = required_flag at >>= λ x. Ok (role_of x.0, x.1)

-- open (part 2, section 2.7.1)
unfoldable pub open_fields : At → Result Open PerfFault
open_fields at = do
  container_id ← required_text at
  hostname ← text container_id.1
  max_frame_size ← uint hostname.1
  channel_max ← ushort max_frame_size.1
  idle_time_out ← uint channel_max.1
  outgoing_locales ← symbols idle_time_out.1
  incoming_locales ← symbols outgoing_locales.1
  offered_capabilities ← symbols incoming_locales.1
  desired_capabilities ← symbols offered_capabilities.1
  properties ← map desired_capabilities.1
  _ ← ended properties.1
  Ok (record {
    container_id = container_id.0;
    hostname = hostname.0;
    max_frame_size = unwrap_or max_frame_size.0 4294967295;
    channel_max = unwrap_or channel_max.0 65535;
    idle_time_out = idle_time_out.0;
    outgoing_locales = outgoing_locales.0;
    incoming_locales = incoming_locales.0;
    offered_capabilities = offered_capabilities.0;
    desired_capabilities = desired_capabilities.0;
    properties = properties.0;
  })

-- begin (part 2, section 2.7.2)
unfoldable pub begin_fields : At → Result Begin PerfFault
begin_fields at = do
  remote_channel ← ushort at
  next_outgoing_id ← required_uint remote_channel.1
  incoming_window ← required_uint next_outgoing_id.1
  outgoing_window ← required_uint incoming_window.1
  handle_max ← uint outgoing_window.1
  offered_capabilities ← symbols handle_max.1
  desired_capabilities ← symbols offered_capabilities.1
  properties ← map desired_capabilities.1
  _ ← ended properties.1
  Ok (record {
    remote_channel = remote_channel.0;
    next_outgoing_id = next_outgoing_id.0;
    incoming_window = incoming_window.0;
    outgoing_window = outgoing_window.0;
    handle_max = unwrap_or handle_max.0 4294967295;
    offered_capabilities = offered_capabilities.0;
    desired_capabilities = desired_capabilities.0;
    properties = properties.0;
  })

-- attach (part 2, section 2.7.3): its first seven fields, the next four, then the others
unfoldable pub ends_at : Takes LinkEnds
ends_at at = do
  name ← required_text at
  handle ← required_uint name.1
  role ← required_role handle.1
  snd_settle_mode ← ubyte role.1
  rcv_settle_mode ← ubyte snd_settle_mode.1
  source ← source_at rcv_settle_mode.1
  target ← target_at source.1
  Ok (
    record {
      name = name.0;
      handle = handle.0;
      role = role.0;
      snd_settle_mode = unwrap_or snd_settle_mode.0 2;
      rcv_settle_mode = unwrap_or rcv_settle_mode.0 0;
      source = source.0;
      target = target.0;
    },
    target.1,
  )

unfoldable pub holdings_at : Takes LinkHoldings
holdings_at at = do
  unsettled ← unsettled_at at
  incomplete_unsettled ← flag unsettled.1
  initial_delivery_count ← uint incomplete_unsettled.1
  max_message_size ← ulong initial_delivery_count.1
  Ok (
    record {
      unsettled = unsettled.0;
      incomplete_unsettled = incomplete_unsettled.0;
      initial_delivery_count = initial_delivery_count.0;
      max_message_size = max_message_size.0;
    },
    max_message_size.1,
  )

unfoldable pub extras_fields : At → Result LinkExtras PerfFault
extras_fields at = do
  offered_capabilities ← symbols at
  desired_capabilities ← symbols offered_capabilities.1
  properties ← map desired_capabilities.1
  _ ← ended properties.1
  Ok (record {
    offered_capabilities = offered_capabilities.0;
    desired_capabilities = desired_capabilities.0;
    properties = properties.0;
  })

unfoldable pub attach_fields : At → Result Attach PerfFault
attach_fields at = do
  ends ← ends_at at
  holdings ← holdings_at ends.1
  extras ← extras_fields holdings.1
  Ok (record {
    name = ends.0.name;
    handle = ends.0.handle;
    role = ends.0.role;
    snd_settle_mode = ends.0.snd_settle_mode;
    rcv_settle_mode = ends.0.rcv_settle_mode;
    source = ends.0.source;
    target = ends.0.target;
    unsettled = holdings.0.unsettled;
    incomplete_unsettled = holdings.0.incomplete_unsettled;
    initial_delivery_count = holdings.0.initial_delivery_count;
    max_message_size = holdings.0.max_message_size;
    offered_capabilities = extras.offered_capabilities;
    desired_capabilities = extras.desired_capabilities;
    properties = extras.properties;
  })

-- flow (part 2, section 2.7.4)
unfoldable pub flow_fields : At → Result Flow PerfFault
flow_fields at = do
  next_incoming_id ← uint at
  incoming_window ← required_uint next_incoming_id.1
  next_outgoing_id ← required_uint incoming_window.1
  outgoing_window ← required_uint next_outgoing_id.1
  handle ← uint outgoing_window.1
  delivery_count ← uint handle.1
  link_credit ← uint delivery_count.1
  available ← uint link_credit.1
  drain ← flag available.1
  echo ← flag drain.1
  properties ← map echo.1
  _ ← ended properties.1
  Ok (record {
    next_incoming_id = next_incoming_id.0;
    incoming_window = incoming_window.0;
    next_outgoing_id = next_outgoing_id.0;
    outgoing_window = outgoing_window.0;
    handle = handle.0;
    delivery_count = delivery_count.0;
    link_credit = link_credit.0;
    available = available.0;
    drain = drain.0;
    echo = echo.0;
    properties = properties.0;
  })

-- transfer (part 2, section 2.7.5)
unfoldable pub transfer_fields : At → Result Transfer PerfFault
transfer_fields at = do
  handle ← required_uint at
  delivery_id ← uint handle.1
  delivery_tag ← tag delivery_id.1
  message_format ← uint delivery_tag.1
  settled ← flag message_format.1
  more ← flag settled.1
  rcv_settle_mode ← ubyte more.1
  state ← state_at rcv_settle_mode.1
  resume ← flag state.1
  aborted ← flag resume.1
  batchable ← flag aborted.1
  _ ← ended batchable.1
  Ok (record {
    handle = handle.0;
    delivery_id = delivery_id.0;
    delivery_tag = delivery_tag.0;
    message_format = message_format.0;
    settled = settled.0;
    more = more.0;
    rcv_settle_mode = rcv_settle_mode.0;
    state = state.0;
    resume = resume.0;
    aborted = aborted.0;
    batchable = batchable.0;
  })

-- disposition (part 2, section 2.7.6)
unfoldable pub disposition_fields : At → Result Disposition PerfFault
disposition_fields at = do
  role ← required_role at
  first ← required_uint role.1
  last ← uint first.1
  settled ← flag last.1
  state ← state_at settled.1
  batchable ← flag state.1
  _ ← ended batchable.1
  Ok (record {
    role = role.0;
    first = first.0;
    last = last.0;
    settled = settled.0;
    state = state.0;
    batchable = batchable.0;
  })

-- detach (part 2, section 2.7.7)
unfoldable pub detach_fields : At → Result Detach PerfFault
detach_fields at = do
  handle ← required_uint at
  closed ← flag handle.1
  error ← error_at closed.1
  _ ← ended error.1
  Ok (record {
    handle = handle.0;
    closed = closed.0;
    error = error.0;
  })

-- end (part 2, section 2.7.8)
unfoldable pub end_fields : At → Result End PerfFault
end_fields at = do
  error ← error_at at
  _ ← ended error.1
  Ok (record {
    error = error.0;
  })

-- close (part 2, section 2.7.9)
unfoldable pub close_fields : At → Result Close PerfFault
close_fields at = do
  error ← error_at at
  _ ← ended error.1
  Ok (record {
    error = error.0;
  })

-- sasl-mechanisms (part 5, section 5.3.3.1)
unfoldable pub sasl_mechanisms_fields : At → Result SaslMechanisms PerfFault
sasl_mechanisms_fields at = do
  mechanisms ← required_symbols at
  _ ← ended mechanisms.1
  Ok (record {
    mechanisms = mechanisms.0;
  })

-- sasl-init (part 5, section 5.3.3.2)
unfoldable pub sasl_init_fields : At → Result SaslInit PerfFault
sasl_init_fields at = do
  mechanism ← required_symbol at
  initial_response ← binary mechanism.1
  hostname ← text initial_response.1
  _ ← ended hostname.1
  Ok (record {
    mechanism = mechanism.0;
    initial_response = initial_response.0;
    hostname = hostname.0;
  })

-- sasl-challenge (part 5, section 5.3.3.3)
unfoldable pub sasl_challenge_fields : At → Result SaslChallenge PerfFault
sasl_challenge_fields at = do
  challenge ← required_binary at
  _ ← ended challenge.1
  Ok (record {
    challenge = challenge.0;
  })

-- sasl-response (part 5, section 5.3.3.4)
unfoldable pub sasl_response_fields : At → Result SaslResponse PerfFault
sasl_response_fields at = do
  response ← required_binary at
  _ ← ended response.1
  Ok (record {
    response = response.0;
  })

-- sasl-outcome (part 5, section 5.3.3.5)
unfoldable pub sasl_outcome_fields : At → Result SaslOutcome PerfFault
sasl_outcome_fields at = do
  code ← required_ubyte at
  additional_data ← binary code.1
  _ ← ended additional_data.1
  Ok (record {
    code = code.0;
    additional_data = additional_data.0;
  })

-- how many fields the list after a descriptor has, where it is a performative's or a SASL body's
abbrev pub limit_of : Descriptor → Option ℕ
limit_of is.Open = Some 10
limit_of is.Begin = Some 8
limit_of is.Attach = Some 14
limit_of is.Flow = Some 11
limit_of is.Transfer = Some 11
limit_of is.Disposition = Some 6
limit_of is.Detach = Some 3
limit_of is.End = Some 1
limit_of is.Close = Some 1
limit_of is.SaslMechanisms = Some 1
limit_of is.SaslInit = Some 3
limit_of is.SaslChallenge = Some 1
limit_of is.SaslResponse = Some 1
limit_of is.SaslOutcome = Some 2
limit_of _ = None

-- the fields after the descriptor of a SASL body
abbrev pub sasl_body : Descriptor → At → Result Perf PerfFault
sasl_body is.SaslMechanisms at = sasl_mechanisms_fields at >>= λ p. Ok (perf.SaslMechanisms p)
sasl_body is.SaslInit at = sasl_init_fields at >>= λ p. Ok (perf.SaslInit p)
sasl_body is.SaslChallenge at = sasl_challenge_fields at >>= λ p. Ok (perf.SaslChallenge p)
sasl_body is.SaslResponse at = sasl_response_fields at >>= λ p. Ok (perf.SaslResponse p)
sasl_body is.SaslOutcome at = sasl_outcome_fields at >>= λ p. Ok (perf.SaslOutcome p)
sasl_body _ at = Err fault.NotPerformative

-- the fields after a descriptor
abbrev pub body : Descriptor → At → Result Perf PerfFault
body is.Open at = open_fields at >>= λ p. Ok (perf.Open p)
body is.Begin at = begin_fields at >>= λ p. Ok (perf.Begin p)
body is.Attach at = attach_fields at >>= λ p. Ok (perf.Attach p)
body is.Flow at = flow_fields at >>= λ p. Ok (perf.Flow p)
body is.Transfer at = transfer_fields at >>= λ p. Ok (perf.Transfer p)
body is.Disposition at = disposition_fields at >>= λ p. Ok (perf.Disposition p)
body is.Detach at = detach_fields at >>= λ p. Ok (perf.Detach p)
body is.End at = end_fields at >>= λ p. Ok (perf.End p)
body is.Close at = close_fields at >>= λ p. Ok (perf.Close p)
body name at = sasl_body name at

-- the list after a descriptor, and the bytes after it
abbrev pub behind : Descriptor → Option ℕ → List ℕ → Result (Perf × List ℕ) PerfFault
behind name None rest = Err fault.NotPerformative
behind name (Some limit) rest = do
  list ← listed 31 limit fault.NotPerformative rest
  p ← body name list.0
  Ok (p, list.1)

abbrev pub performative_by : List ℕ → Opening × List ℕ → Result (Perf × List ℕ) PerfFault
performative_by bytes (opening.Described (Some name), rest) = behind name (limit_of name) rest
performative_by bytes (opening.Described None, rest) = Err fault.NotPerformative
performative_by bytes _ = by_fault outer (after (value_at 32 bytes)) >>= λ _. Err fault.NotPerformative

-- the performative at the front, and the bytes after it
unfoldable pub performative_at : List ℕ → Result (Perf × List ℕ) PerfFault
performative_at bytes = opening_at 32 bytes >>= performative_by bytes

-- the performative at the front, and how many bytes encode it
unfoldable pub performative : List ℕ → Result (Perf × ℕ) PerfFault
performative bytes = performative_at bytes >>= λ x. Ok (x.0, length bytes - length x.1)

-- a delivery state that stands alone, and how many bytes encode it
abbrev pub some_state : List ℕ → Option DeliveryState × List ℕ → Result (DeliveryState × ℕ) PerfFault
some_state bytes (None, rest) = Err fault.MissingField
some_state bytes (Some s, rest) = Ok (s, length bytes - length rest)

unfoldable pub state : List ℕ → Result (DeliveryState × ℕ) PerfFault
state bytes = state_in 32 bytes >>= some_state bytes
