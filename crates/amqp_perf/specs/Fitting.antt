-- Which performatives and delivery states are read again as they were written: numbers within their types, texts and
-- symbols of their alphabets, carried values in canonical encoding, and sizes below 2 ^ 32 (AMQP 1.0 part 1,
-- section 1.6). A depth is how many levels of nesting are left from there on: 32 for a whole value, 30 for a
-- performative's field, and two less for each list further in.
use Rattle.std.specs.Prelude.{◌≡◌, ℕ, ◌+◌, ◌-◌, ◌*◌, ◌^◌, ◌<◌, ◌≤◌, Bool, true, false, List, [], ◌∷◌, length, Option, Some, None, Result, Ok}
use Rattle.std.specs.Str.{is_utf8}
use Rattle.arrayvec.specs.ArrayVec.{ArrayVec}
use Rattle.amqp_model.specs.declared.code.Kind.TheVariants as kind
use Rattle.amqp_model.specs.Data as d
use Rattle.amqp_model.specs.Data.{Data, Pairs}
use Rattle.amqp_model.specs.View.{plain_part}
use Rattle.amqp_types.specs.Reading.{all_ascii}
use Rattle.amqp_model.specs.ValueSpelling.{constructed, spelling, pieces}
use Rattle.amqp_types.specs.Fitting.{FitsIn}
use Rattle.amqp_model.specs.declared.perf_fault.PerfFault.{PerfFault}
use Rattle.amqp_model.specs.declared.descriptor.Descriptor.{Descriptor}
use Rattle.amqp_model.specs.declared.descriptor.Descriptor.TheVariants as is
use Rattle.amqp_model.specs.declared.state.Fault.{Fault}
use Rattle.amqp_model.specs.declared.state.DeliveryState.{DeliveryState}
use Rattle.amqp_model.specs.declared.state.DeliveryState.TheVariants as state
use Rattle.amqp_model.specs.declared.state.Received.{Received}
use Rattle.amqp_model.specs.declared.state.Rejected.{Rejected}
use Rattle.amqp_model.specs.declared.state.Modified.{Modified}
use Rattle.amqp_model.specs.declared.perf.Open.{Open}
use Rattle.amqp_model.specs.declared.perf.Begin.{Begin}
use Rattle.amqp_model.specs.declared.perf.Flow.{Flow}
use Rattle.amqp_model.specs.declared.perf.Transfer.{Transfer}
use Rattle.amqp_model.specs.declared.perf.Disposition.{Disposition}
use Rattle.amqp_model.specs.declared.perf.Detach.{Detach}
use Rattle.amqp_model.specs.declared.perf.End.{End}
use Rattle.amqp_model.specs.declared.perf.Close.{Close}
use Rattle.amqp_model.specs.declared.perf.SaslMechanisms.{SaslMechanisms}
use Rattle.amqp_model.specs.declared.perf.SaslInit.{SaslInit}
use Rattle.amqp_model.specs.declared.perf.SaslChallenge.{SaslChallenge}
use Rattle.amqp_model.specs.declared.perf.SaslResponse.{SaslResponse}
use Rattle.amqp_model.specs.declared.perf.SaslOutcome.{SaslOutcome}
use Rattle.amqp_model.specs.declared.perf.Attach.{Attach}
use Rattle.amqp_model.specs.declared.state.UnsettledDelivery.{UnsettledDelivery}
use Rattle.amqp_model.specs.declared.terminus.Address.{Address}
use Rattle.amqp_model.specs.declared.terminus.Source.{Source}
use Rattle.amqp_model.specs.declared.terminus.Target.{Target}
use Rattle.amqp_model.specs.declared.terminus.SourceTerminus.{SourceTerminus}
use Rattle.amqp_model.specs.declared.terminus.TargetTerminus.{TargetTerminus}
use Rattle.amqp_model.specs.declared.terminus.Address.TheVariants as address
use Rattle.amqp_model.specs.declared.terminus.SourceTerminus.TheVariants as source
use Rattle.amqp_model.specs.declared.terminus.TargetTerminus.TheVariants as target
use Rattle.amqp_model.specs.declared.perf.Perf.{Perf}
use Rattle.amqp_model.specs.declared.perf.Perf.TheVariants as perf
use Rattle.amqp_perf.specs.Fields.{name_of}
use Rattle.amqp_perf.specs.States.{is_among}
use Rattle.amqp_model.specs.Texts.{FieldText, given, joined, symbol_items}
use Rattle.amqp_model.specs.PerfSpelling.{error_texts, rejected_texts, modified_texts, source_texts, target_texts, attach_texts, deliveries_text, open_texts, begin_texts, flow_texts, transfer_texts, disposition_texts, detach_texts, end_texts, close_texts, sasl_mechanisms_texts, sasl_init_texts, sasl_challenge_texts, sasl_response_texts, sasl_outcome_texts}

-- what holds of a field, where it holds anything
abbrev pub Each : {A : Type 0} → (A → Type 0) → Option A → Type 0
Each One None = Unit {0}
Each One (Some x) = One x

abbrev pub IsText : List ℕ → Type 0
IsText s = (length s < 2 ^ 32) × (is_utf8 s ≡ true)

abbrev pub IsSymbol : List ℕ → Type 0
IsSymbol s = (length s < 2 ^ 32) × (all_ascii s ≡ true)

abbrev pub IsBinary : List ℕ → Type 0
IsBinary bytes = length bytes < 2 ^ 32

-- a delivery's tag (part 2, section 2.8.7)
abbrev pub IsTag : ArrayVec ℕ → Type 0
IsTag tag = length tag.items ≤ 32

abbrev pub AllSymbols : List (List ℕ) → Type 0
AllSymbols [] = Unit {0}
AllSymbols (s ∷ ss) = IsSymbol s × AllSymbols ss

-- symbols of a field that may hold several, which fill one array
pub record AreSymbols (ss : List (List ℕ)) : Type 0 where
  pub each : AllSymbols ss
  pub few : length ss < 2 ^ 32
  pub short : length (constructed kind.Symbol (pieces (symbol_items ss))) + 4 < 2 ^ 32

-- a map that is carried: the canonical encoding of a map
pub record IsMap (depth : ℕ) (bytes : List ℕ) : Type 0 where
  pub pairs : Pairs
  pub canonical : bytes ≡ spelling (d.map pairs)
  pub fits : FitsIn depth (d.map pairs)

-- a described value that is carried, whose descriptor is none of those that are known
pub record IsOther (known : Option Descriptor → Bool) (depth : ℕ) (bytes : List ℕ) : Type 0 where
  pub descriptor : Data
  pub value : Data
  pub canonical : bytes ≡ spelling (d.described descriptor value)
  pub fits : FitsIn depth (d.described descriptor value)
  pub unknown : known (name_of (plain_part descriptor)) ≡ false

-- the size of a list of fields, whose field for it has 32 bits
abbrev pub IsShort : List FieldText → Type 0
IsShort fs = length (joined (given fs)) + 4 < 2 ^ 32

-- an error (part 2, section 2.8.14); its fields stand two levels further in
pub record FitsError (depth : ℕ) (x : Fault) : Type 0 where
  pub condition : IsSymbol x.condition
  pub description : Each IsText x.description
  pub info : Each (IsMap (depth - 2)) x.info
  pub whole : IsShort (error_texts x)

-- the delivery states of the standard (part 3, section 3.4)
abbrev pub names_state : Option Descriptor → Bool
names_state (Some is.Received) = true
names_state (Some is.Accepted) = true
names_state (Some is.Rejected) = true
names_state (Some is.Released) = true
names_state (Some is.Modified) = true
names_state _ = false

pub record FitsReceived (x : Received) : Type 0 where
  pub section_number : x.section_number < 2 ^ 32
  pub section_offset : x.section_offset < 2 ^ 64

pub record FitsRejected (depth : ℕ) (x : Rejected) : Type 0 where
  pub error : Each (FitsError (depth - 2)) x.error
  pub whole : IsShort (rejected_texts x)

pub record FitsModified (depth : ℕ) (x : Modified) : Type 0 where
  pub message_annotations : Each (IsMap (depth - 2)) x.message_annotations
  pub whole : IsShort (modified_texts x)

abbrev pub FitsState : ℕ → DeliveryState → Type 0
FitsState depth (state.Received x) = FitsReceived x
FitsState depth state.Accepted = Unit {0}
FitsState depth (state.Rejected x) = FitsRejected depth x
FitsState depth state.Released = Unit {0}
FitsState depth (state.Modified x) = FitsModified depth x
FitsState depth (state.Other bytes) = IsOther names_state depth bytes

-- open (part 2, section 2.7.1)
pub record FitsOpen (x : Open) : Type 0 where
  pub container_id : IsText x.container_id
  pub hostname : Each IsText x.hostname
  pub max_frame_size : x.max_frame_size < 2 ^ 32
  pub channel_max : x.channel_max < 2 ^ 16
  pub idle_time_out : Each (λ n. n < 2 ^ 32) x.idle_time_out
  pub outgoing_locales : AreSymbols x.outgoing_locales
  pub incoming_locales : AreSymbols x.incoming_locales
  pub offered_capabilities : AreSymbols x.offered_capabilities
  pub desired_capabilities : AreSymbols x.desired_capabilities
  pub properties : Each (IsMap 30) x.properties
  pub whole : IsShort (open_texts x)

-- begin (part 2, section 2.7.2)
pub record FitsBegin (x : Begin) : Type 0 where
  pub remote_channel : Each (λ n. n < 2 ^ 16) x.remote_channel
  pub next_outgoing_id : x.next_outgoing_id < 2 ^ 32
  pub incoming_window : x.incoming_window < 2 ^ 32
  pub outgoing_window : x.outgoing_window < 2 ^ 32
  pub handle_max : x.handle_max < 2 ^ 32
  pub offered_capabilities : AreSymbols x.offered_capabilities
  pub desired_capabilities : AreSymbols x.desired_capabilities
  pub properties : Each (IsMap 30) x.properties
  pub whole : IsShort (begin_texts x)

-- flow (part 2, section 2.7.4)
pub record FitsFlow (x : Flow) : Type 0 where
  pub next_incoming_id : Each (λ n. n < 2 ^ 32) x.next_incoming_id
  pub incoming_window : x.incoming_window < 2 ^ 32
  pub next_outgoing_id : x.next_outgoing_id < 2 ^ 32
  pub outgoing_window : x.outgoing_window < 2 ^ 32
  pub handle : Each (λ n. n < 2 ^ 32) x.handle
  pub delivery_count : Each (λ n. n < 2 ^ 32) x.delivery_count
  pub link_credit : Each (λ n. n < 2 ^ 32) x.link_credit
  pub available : Each (λ n. n < 2 ^ 32) x.available
  pub properties : Each (IsMap 30) x.properties
  pub whole : IsShort (flow_texts x)

-- transfer (part 2, section 2.7.5)
pub record FitsTransfer (x : Transfer) : Type 0 where
  pub handle : x.handle < 2 ^ 32
  pub delivery_id : Each (λ n. n < 2 ^ 32) x.delivery_id
  pub delivery_tag : Each IsTag x.delivery_tag
  pub message_format : Each (λ n. n < 2 ^ 32) x.message_format
  pub rcv_settle_mode : Each (λ n. n < 2 ^ 8) x.rcv_settle_mode
  pub state : Each (FitsState 30) x.state
  pub whole : IsShort (transfer_texts x)

-- disposition (part 2, section 2.7.6)
pub record FitsDisposition (x : Disposition) : Type 0 where
  pub first : x.first < 2 ^ 32
  pub last : Each (λ n. n < 2 ^ 32) x.last
  pub state : Each (FitsState 30) x.state
  pub whole : IsShort (disposition_texts x)

-- detach (part 2, section 2.7.7)
pub record FitsDetach (x : Detach) : Type 0 where
  pub handle : x.handle < 2 ^ 32
  pub error : Each (FitsError 30) x.error
  pub whole : IsShort (detach_texts x)

-- end (part 2, section 2.7.8)
pub record FitsEnd (x : End) : Type 0 where
  pub error : Each (FitsError 30) x.error
  pub whole : IsShort (end_texts x)

-- close (part 2, section 2.7.9)
pub record FitsClose (x : Close) : Type 0 where
  pub error : Each (FitsError 30) x.error
  pub whole : IsShort (close_texts x)

-- sasl-mechanisms (part 5, section 5.3.3.1); there is at least one
pub record FitsSaslMechanisms (x : SaslMechanisms) : Type 0 where
  pub mechanisms : AreSymbols x.mechanisms
  pub some : 1 ≤ length x.mechanisms
  pub whole : IsShort (sasl_mechanisms_texts x)

-- sasl-init (part 5, section 5.3.3.2)
pub record FitsSaslInit (x : SaslInit) : Type 0 where
  pub mechanism : IsSymbol x.mechanism
  pub initial_response : Each IsBinary x.initial_response
  pub hostname : Each IsText x.hostname
  pub whole : IsShort (sasl_init_texts x)

-- sasl-challenge (part 5, section 5.3.3.3)
pub record FitsSaslChallenge (x : SaslChallenge) : Type 0 where
  pub challenge : IsBinary x.challenge
  pub whole : IsShort (sasl_challenge_texts x)

-- sasl-response (part 5, section 5.3.3.4)
pub record FitsSaslResponse (x : SaslResponse) : Type 0 where
  pub response : IsBinary x.response
  pub whole : IsShort (sasl_response_texts x)

-- sasl-outcome (part 5, section 5.3.3.5)
pub record FitsSaslOutcome (x : SaslOutcome) : Type 0 where
  pub code : x.code < 2 ^ 8
  pub additional_data : Each IsBinary x.additional_data
  pub whole : IsShort (sasl_outcome_texts x)

-- the value of an address that is no string; null is none at all
abbrev pub is_address_value : Data → Bool
is_address_value d.null = false
is_address_value (d.string s) = false
is_address_value v = true

pub record IsAddressValue (depth : ℕ) (bytes : List ℕ) : Type 0 where
  pub value : Data
  pub canonical : bytes ≡ spelling value
  pub fits : FitsIn depth value
  pub other : is_address_value value ≡ true

abbrev pub FitsAddress : ℕ → Address → Type 0
FitsAddress depth (address.Text s) = IsText s
FitsAddress depth (address.Other bytes) = IsAddressValue depth bytes

-- sources and targets (part 3, sections 3.5.3 and 3.5.4), which stand in an attach alone
pub record FitsSource (x : Source) : Type 0 where
  pub address : Each (FitsAddress 28) x.address
  pub durable : x.durable < 2 ^ 32
  pub expiry_policy : IsSymbol x.expiry_policy
  pub timeout : x.timeout < 2 ^ 32
  pub dynamic_node_properties : Each (IsMap 28) x.dynamic_node_properties
  pub distribution_mode : Each IsSymbol x.distribution_mode
  pub filter : Each (IsMap 28) x.filter
  pub default_outcome : Each (FitsState 28) x.default_outcome
  pub outcomes : AreSymbols x.outcomes
  pub capabilities : AreSymbols x.capabilities
  pub whole : IsShort (source_texts x)

pub record FitsTarget (x : Target) : Type 0 where
  pub address : Each (FitsAddress 28) x.address
  pub durable : x.durable < 2 ^ 32
  pub expiry_policy : IsSymbol x.expiry_policy
  pub timeout : x.timeout < 2 ^ 32
  pub dynamic_node_properties : Each (IsMap 28) x.dynamic_node_properties
  pub capabilities : AreSymbols x.capabilities
  pub whole : IsShort (target_texts x)

abbrev pub names_source : Option Descriptor → Bool
names_source (Some is.Source) = true
names_source _ = false

abbrev pub names_target : Option Descriptor → Bool
names_target (Some is.Target) = true
names_target _ = false

abbrev pub FitsSourceTerminus : SourceTerminus → Type 0
FitsSourceTerminus (source.Source x) = FitsSource x
FitsSourceTerminus (source.Other bytes) = IsOther names_source 30 bytes

abbrev pub FitsTargetTerminus : TargetTerminus → Type 0
FitsTargetTerminus (target.Target x) = FitsTarget x
FitsTargetTerminus (target.Other bytes) = IsOther names_target 30 bytes

-- an unsettled map (part 2, section 2.7.3): its tags differ, and each state fits
abbrev pub AllDeliveries : List UnsettledDelivery → Type 0
AllDeliveries [] = Unit {0}
AllDeliveries (u ∷ us) = IsTag u.tag × Each (FitsState 29) u.state × AllDeliveries us

abbrev pub TagsDiffer : List UnsettledDelivery → Type 0
TagsDiffer [] = Unit {0}
TagsDiffer (u ∷ us) = (is_among us u.tag ≡ false) × TagsDiffer us

pub record FitsUnsettled (us : List UnsettledDelivery) : Type 0 where
  pub each : AllDeliveries us
  pub differ : TagsDiffer us
  pub few : 2 * length us < 2 ^ 32
  pub short : length (deliveries_text us) + 4 < 2 ^ 32

-- attach (part 2, section 2.7.3)
pub record FitsAttach (x : Attach) : Type 0 where
  pub name : IsText x.name
  pub handle : x.handle < 2 ^ 32
  pub snd_settle_mode : x.snd_settle_mode < 2 ^ 8
  pub rcv_settle_mode : x.rcv_settle_mode < 2 ^ 8
  pub source : Each FitsSourceTerminus x.source
  pub target : Each FitsTargetTerminus x.target
  pub unsettled : Each FitsUnsettled x.unsettled
  pub initial_delivery_count : Each (λ n. n < 2 ^ 32) x.initial_delivery_count
  pub max_message_size : Each (λ n. n < 2 ^ 64) x.max_message_size
  pub offered_capabilities : AreSymbols x.offered_capabilities
  pub desired_capabilities : AreSymbols x.desired_capabilities
  pub properties : Each (IsMap 30) x.properties
  pub whole : IsShort (attach_texts x)

-- every performative
abbrev pub Fits : Perf → Type 0
Fits (perf.Open x) = FitsOpen x
Fits (perf.Begin x) = FitsBegin x
Fits (perf.Attach x) = FitsAttach x
Fits (perf.Flow x) = FitsFlow x
Fits (perf.Transfer x) = FitsTransfer x
Fits (perf.Disposition x) = FitsDisposition x
Fits (perf.Detach x) = FitsDetach x
Fits (perf.End x) = FitsEnd x
Fits (perf.Close x) = FitsClose x
Fits (perf.SaslMechanisms x) = FitsSaslMechanisms x
Fits (perf.SaslInit x) = FitsSaslInit x
Fits (perf.SaslChallenge x) = FitsSaslChallenge x
Fits (perf.SaslResponse x) = FitsSaslResponse x
Fits (perf.SaslOutcome x) = FitsSaslOutcome x

-- what was read, and how many bytes encode it
abbrev pub read_as : {A : Type 0} → A → ℕ → Result (A × ℕ) PerfFault
read_as x n = Ok (x, n)
