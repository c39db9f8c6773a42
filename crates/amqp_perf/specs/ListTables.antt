-- The tables of the standard's lists, field by field (AMQP 1.0 part 2, section 2.7; part 3, sections 3.4 and 3.5; part 5,
-- section 5.3.3), and which bytes encode a performative, a SASL body or a delivery state by them. A number of a few choices,
-- as a settle mode, is any number of its type.
use Rattle.std.specs.Prelude.{◌≡◌, ℕ, false, List, [], ◌∷◌, ◌++◌, codes}
use Rattle.amqp_model.specs.Data as d
use Rattle.amqp_model.specs.Data.{Data, Pairs, no_pairs, pair}
use Rattle.amqp_types.specs.Spells.{Spells}
use Rattle.amqp_model.specs.declared.descriptor.Descriptor.{Descriptor}
use Rattle.amqp_model.specs.declared.descriptor.Descriptor.TheVariants as is
use Rattle.amqp_model.specs.declared.state.Fault.{Fault}
use Rattle.amqp_model.specs.declared.state.Received.{Received}
use Rattle.amqp_model.specs.declared.state.Rejected.{Rejected}
use Rattle.amqp_model.specs.declared.state.Modified.{Modified}
use Rattle.amqp_model.specs.declared.state.DeliveryState.{DeliveryState}
use Rattle.amqp_model.specs.declared.state.DeliveryState.TheVariants as state
use Rattle.amqp_model.specs.declared.state.UnsettledDelivery.{UnsettledDelivery}
use Rattle.amqp_model.specs.declared.terminus.Source.{Source}
use Rattle.amqp_model.specs.declared.terminus.Target.{Target}
use Rattle.amqp_model.specs.declared.terminus.SourceTerminus.{SourceTerminus}
use Rattle.amqp_model.specs.declared.terminus.SourceTerminus.TheVariants as source
use Rattle.amqp_model.specs.declared.terminus.TargetTerminus.{TargetTerminus}
use Rattle.amqp_model.specs.declared.terminus.TargetTerminus.TheVariants as target
use Rattle.amqp_model.specs.declared.perf.Open.{Open}
use Rattle.amqp_model.specs.declared.perf.Begin.{Begin}
use Rattle.amqp_model.specs.declared.perf.Attach.{Attach}
use Rattle.amqp_model.specs.declared.perf.Flow.{Flow}
use Rattle.amqp_model.specs.declared.perf.Transfer.{Transfer}
use Rattle.amqp_model.specs.declared.perf.Disposition.{Disposition}
use Rattle.amqp_model.specs.declared.perf.Detach.{Detach}
use Rattle.amqp_model.specs.declared.perf.End.{End}
use Rattle.amqp_model.specs.declared.perf.Close.{Close}
use Rattle.amqp_model.specs.declared.perf.SaslMechanisms.{SaslMechanisms}
use Rattle.amqp_model.specs.declared.perf.SaslInit.{SaslInit}
use Rattle.amqp_model.specs.declared.perf.SaslChallenge.{SaslChallenge}
use Rattle.amqp_model.specs.declared.perf.SaslResponse.{SaslResponse}
use Rattle.amqp_model.specs.declared.perf.SaslOutcome.{SaslOutcome}
use Rattle.amqp_model.specs.declared.perf.Perf.{Perf}
use Rattle.amqp_model.specs.declared.perf.Perf.TheVariants as perf
use Rattle.amqp_perf.specs.States.{is_among}
use Rattle.amqp_perf.specs.Tables.{Kind, Field, mandatory, optional, defaulted, multiple, IsList, IsCarried, SpellsList, boolean, ubyte, ushort, uint, ulong, string, symbol, binary, map, some_symbols, tag, role_kind, node_address}

-- error (part 2, section 2.8.14)
abbrev pub error_table : Fault → List Field
error_table x =
    mandatory symbol x.condition ∷
    optional string x.description ∷
    optional map x.info ∷ []

abbrev pub error : Kind Fault
error x = IsList is.Error (error_table x)

-- received, rejected, modified (part 3, sections 3.4.1, 3.4.3 and 3.4.5); accepted and released have no fields. A flag of
-- modified that is absent is false.
abbrev pub received_table : Received → List Field
received_table x =
    mandatory uint x.section_number ∷
    mandatory ulong x.section_offset ∷ []

abbrev pub rejected_table : Rejected → List Field
rejected_table x = optional error x.error ∷ []

abbrev pub modified_table : Modified → List Field
modified_table x =
    defaulted boolean false x.delivery_failed ∷
    defaulted boolean false x.undeliverable_here ∷
    optional map x.message_annotations ∷ []

-- a delivery state (part 3, section 3.4); one with another descriptor is carried unread
abbrev pub state_names : List Descriptor
state_names = is.Received ∷ is.Accepted ∷ is.Rejected ∷ is.Released ∷ is.Modified ∷ []

abbrev pub delivery_state : Kind DeliveryState
delivery_state (state.Received x) = IsList is.Received (received_table x)
delivery_state state.Accepted = IsList is.Accepted []
delivery_state (state.Rejected x) = IsList is.Rejected (rejected_table x)
delivery_state state.Released = IsList is.Released []
delivery_state (state.Modified x) = IsList is.Modified (modified_table x)
delivery_state (state.Other bytes) = IsCarried state_names bytes

-- Deliveries, each a tag with its state or null, behind those before: no tag comes twice.
abbrev pub AreDeliveries : List UnsettledDelivery → List UnsettledDelivery → Pairs → Type 0
AreDeliveries before [] no_pairs = Unit {0}
AreDeliveries before [] (pair k v ps) = ⊥
AreDeliveries before (u ∷ us) no_pairs = ⊥
AreDeliveries before (u ∷ us) (pair k v ps) =
    tag u.tag k × (is_among before u.tag ≡ false) × optional delivery_state u.state v × AreDeliveries (before ++ u ∷ []) us ps

-- the unsettled map of an attach (part 2, section 2.7.3)
abbrev pub deliveries : Kind (List UnsettledDelivery)
deliveries us v = (pairs : Pairs) × (v ≡ d.map pairs) × AreDeliveries [] us pairs

-- source and target (part 3, sections 3.5.3 and 3.5.4); a terminus with another descriptor is carried unread
abbrev pub source_table : Source → List Field
source_table x =
    optional node_address x.address ∷
    defaulted uint 0 x.durable ∷
    defaulted symbol (codes "session-end") x.expiry_policy ∷
    defaulted uint 0 x.timeout ∷
    defaulted boolean false x.dynamic ∷
    optional map x.dynamic_node_properties ∷
    optional symbol x.distribution_mode ∷
    optional map x.filter ∷
    optional delivery_state x.default_outcome ∷
    multiple x.outcomes ∷
    multiple x.capabilities ∷ []

abbrev pub target_table : Target → List Field
target_table x =
    optional node_address x.address ∷
    defaulted uint 0 x.durable ∷
    defaulted symbol (codes "session-end") x.expiry_policy ∷
    defaulted uint 0 x.timeout ∷
    defaulted boolean false x.dynamic ∷
    optional map x.dynamic_node_properties ∷
    multiple x.capabilities ∷ []

abbrev pub source_terminus : Kind SourceTerminus
source_terminus (source.Source x) = IsList is.Source (source_table x)
source_terminus (source.Other bytes) = IsCarried (is.Source ∷ []) bytes

abbrev pub target_terminus : Kind TargetTerminus
target_terminus (target.Target x) = IsList is.Target (target_table x)
target_terminus (target.Other bytes) = IsCarried (is.Target ∷ []) bytes

-- open (part 2, section 2.7.1)
abbrev pub open_table : Open → List Field
open_table x =
    mandatory string x.container_id ∷
    optional string x.hostname ∷
    defaulted uint 4294967295 x.max_frame_size ∷
    defaulted ushort 65535 x.channel_max ∷
    optional uint x.idle_time_out ∷
    multiple x.outgoing_locales ∷
    multiple x.incoming_locales ∷
    multiple x.offered_capabilities ∷
    multiple x.desired_capabilities ∷
    optional map x.properties ∷ []

-- begin (part 2, section 2.7.2)
abbrev pub begin_table : Begin → List Field
begin_table x =
    optional ushort x.remote_channel ∷
    mandatory uint x.next_outgoing_id ∷
    mandatory uint x.incoming_window ∷
    mandatory uint x.outgoing_window ∷
    defaulted uint 4294967295 x.handle_max ∷
    multiple x.offered_capabilities ∷
    multiple x.desired_capabilities ∷
    optional map x.properties ∷ []

-- attach (part 2, section 2.7.3)
abbrev pub attach_table : Attach → List Field
attach_table x =
    mandatory string x.name ∷
    mandatory uint x.handle ∷
    mandatory role_kind x.role ∷
    defaulted ubyte 2 x.snd_settle_mode ∷
    defaulted ubyte 0 x.rcv_settle_mode ∷
    optional source_terminus x.source ∷
    optional target_terminus x.target ∷
    optional deliveries x.unsettled ∷
    defaulted boolean false x.incomplete_unsettled ∷
    optional uint x.initial_delivery_count ∷
    optional ulong x.max_message_size ∷
    multiple x.offered_capabilities ∷
    multiple x.desired_capabilities ∷
    optional map x.properties ∷ []

-- flow (part 2, section 2.7.4)
abbrev pub flow_table : Flow → List Field
flow_table x =
    optional uint x.next_incoming_id ∷
    mandatory uint x.incoming_window ∷
    mandatory uint x.next_outgoing_id ∷
    mandatory uint x.outgoing_window ∷
    optional uint x.handle ∷
    optional uint x.delivery_count ∷
    optional uint x.link_credit ∷
    optional uint x.available ∷
    defaulted boolean false x.drain ∷
    defaulted boolean false x.echo ∷
    optional map x.properties ∷ []

-- transfer (part 2, section 2.7.5); settled, for which the standard's table has no default, is false where it is absent
abbrev pub transfer_table : Transfer → List Field
transfer_table x =
    mandatory uint x.handle ∷
    optional uint x.delivery_id ∷
    optional tag x.delivery_tag ∷
    optional uint x.message_format ∷
    defaulted boolean false x.settled ∷
    defaulted boolean false x.more ∷
    optional ubyte x.rcv_settle_mode ∷
    optional delivery_state x.state ∷
    defaulted boolean false x.resume ∷
    defaulted boolean false x.aborted ∷
    defaulted boolean false x.batchable ∷ []

-- disposition (part 2, section 2.7.6)
abbrev pub disposition_table : Disposition → List Field
disposition_table x =
    mandatory role_kind x.role ∷
    mandatory uint x.first ∷
    optional uint x.last ∷
    defaulted boolean false x.settled ∷
    optional delivery_state x.state ∷
    defaulted boolean false x.batchable ∷ []

-- detach (part 2, section 2.7.7)
abbrev pub detach_table : Detach → List Field
detach_table x =
    mandatory uint x.handle ∷
    defaulted boolean false x.closed ∷
    optional error x.error ∷ []

-- end (part 2, section 2.7.8)
abbrev pub end_table : End → List Field
end_table x = optional error x.error ∷ []

-- close (part 2, section 2.7.9)
abbrev pub close_table : Close → List Field
close_table x = optional error x.error ∷ []

-- sasl-mechanisms (part 5, section 5.3.3.1)
abbrev pub sasl_mechanisms_table : SaslMechanisms → List Field
sasl_mechanisms_table x = mandatory some_symbols x.mechanisms ∷ []

-- sasl-init (part 5, section 5.3.3.2)
abbrev pub sasl_init_table : SaslInit → List Field
sasl_init_table x =
    mandatory symbol x.mechanism ∷
    optional binary x.initial_response ∷
    optional string x.hostname ∷ []

-- sasl-challenge (part 5, section 5.3.3.3)
abbrev pub sasl_challenge_table : SaslChallenge → List Field
sasl_challenge_table x = mandatory binary x.challenge ∷ []

-- sasl-response (part 5, section 5.3.3.4)
abbrev pub sasl_response_table : SaslResponse → List Field
sasl_response_table x = mandatory binary x.response ∷ []

-- sasl-outcome (part 5, section 5.3.3.5)
abbrev pub sasl_outcome_table : SaslOutcome → List Field
sasl_outcome_table x =
    mandatory ubyte x.code ∷
    optional binary x.additional_data ∷ []

-- ---- every performative and SASL body

abbrev pub name_of_perf : Perf → Descriptor
name_of_perf (perf.Open x) = is.Open
name_of_perf (perf.Begin x) = is.Begin
name_of_perf (perf.Attach x) = is.Attach
name_of_perf (perf.Flow x) = is.Flow
name_of_perf (perf.Transfer x) = is.Transfer
name_of_perf (perf.Disposition x) = is.Disposition
name_of_perf (perf.Detach x) = is.Detach
name_of_perf (perf.End x) = is.End
name_of_perf (perf.Close x) = is.Close
name_of_perf (perf.SaslMechanisms x) = is.SaslMechanisms
name_of_perf (perf.SaslInit x) = is.SaslInit
name_of_perf (perf.SaslChallenge x) = is.SaslChallenge
name_of_perf (perf.SaslResponse x) = is.SaslResponse
name_of_perf (perf.SaslOutcome x) = is.SaslOutcome

abbrev pub table_of_perf : Perf → List Field
table_of_perf (perf.Open x) = open_table x
table_of_perf (perf.Begin x) = begin_table x
table_of_perf (perf.Attach x) = attach_table x
table_of_perf (perf.Flow x) = flow_table x
table_of_perf (perf.Transfer x) = transfer_table x
table_of_perf (perf.Disposition x) = disposition_table x
table_of_perf (perf.Detach x) = detach_table x
table_of_perf (perf.End x) = end_table x
table_of_perf (perf.Close x) = close_table x
table_of_perf (perf.SaslMechanisms x) = sasl_mechanisms_table x
table_of_perf (perf.SaslInit x) = sasl_init_table x
table_of_perf (perf.SaslChallenge x) = sasl_challenge_table x
table_of_perf (perf.SaslResponse x) = sasl_response_table x
table_of_perf (perf.SaslOutcome x) = sasl_outcome_table x

-- the bytes encode the performative: a list with its descriptor, whose fields hold by its table
abbrev pub SpellsPerf : List ℕ → Perf → Type 0
SpellsPerf bytes p = SpellsList 32 (name_of_perf p) (table_of_perf p) bytes

-- the bytes encode the delivery state, which stands alone
pub record SpellsState (bytes : List ℕ) (s : DeliveryState) : Type 0 where
  pub value : Data
  pub spelled : Spells 32 bytes value
  pub means : delivery_state s value
