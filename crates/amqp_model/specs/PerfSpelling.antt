-- The one encoding that is written of each performative, delivery state, error and terminus: each field in its canonical
-- encoding, null where it has its default (AMQP 1.0 part 2, section 2.7; part 3, sections 3.4 and 3.5; part 5, section
-- 5.3.3).
use Rattle.std.specs.Prelude.{ℕ, ◌*◌, true, false, List, [], ◌∷◌, ◌++◌, length, Option, Some, None, if◌then◌else◌, codes}
use Rattle.std.specs.Cmp.Lexicographic.{pointwise}
use Rattle.std.specs.Prelude.{nat_eq}
use Rattle.amqp_model.specs.declared.code.Kind.TheVariants as kind
use Rattle.amqp_model.specs.Data as d
use Rattle.amqp_model.specs.ValueSpelling.{constructed, compound_piece}
use Rattle.amqp_model.specs.declared.descriptor.Descriptor.TheVariants as is
use Rattle.amqp_model.specs.declared.state.Fault.{Fault}
use Rattle.amqp_model.specs.declared.state.Received.{Received}
use Rattle.amqp_model.specs.declared.state.Rejected.{Rejected}
use Rattle.amqp_model.specs.declared.state.Modified.{Modified}
use Rattle.amqp_model.specs.declared.terminus.Source.{Source}
use Rattle.amqp_model.specs.declared.terminus.Target.{Target}
use Rattle.amqp_model.specs.declared.state.DeliveryState.{DeliveryState}
use Rattle.amqp_model.specs.declared.state.DeliveryState.TheVariants as state
use Rattle.amqp_model.specs.declared.state.UnsettledDelivery.{UnsettledDelivery}
use Rattle.amqp_model.specs.declared.terminus.Address.{Address}
use Rattle.amqp_model.specs.declared.terminus.Address.TheVariants as address
use Rattle.amqp_model.specs.declared.terminus.SourceTerminus.{SourceTerminus}
use Rattle.amqp_model.specs.declared.terminus.SourceTerminus.TheVariants as source
use Rattle.amqp_model.specs.declared.terminus.TargetTerminus.{TargetTerminus}
use Rattle.amqp_model.specs.declared.terminus.TargetTerminus.TheVariants as target
use Rattle.amqp_model.specs.declared.perf.Open.{Open}
use Rattle.amqp_model.specs.declared.perf.Begin.{Begin}
use Rattle.amqp_model.specs.declared.perf.Attach.{Attach}
use Rattle.amqp_model.specs.declared.perf.Flow.{Flow}
use Rattle.amqp_model.specs.declared.perf.Transfer.{Transfer}
use Rattle.amqp_model.specs.declared.perf.Disposition.{Disposition}
use Rattle.amqp_model.specs.declared.perf.Detach.{Detach}
use Rattle.amqp_model.specs.declared.perf.End.{End}
use Rattle.amqp_model.specs.declared.perf.Close.{Close}
use Rattle.amqp_model.specs.declared.perf.SaslMechanisms.{SaslMechanisms}
use Rattle.amqp_model.specs.declared.perf.SaslInit.{SaslInit}
use Rattle.amqp_model.specs.declared.perf.SaslChallenge.{SaslChallenge}
use Rattle.amqp_model.specs.declared.perf.SaslResponse.{SaslResponse}
use Rattle.amqp_model.specs.declared.perf.SaslOutcome.{SaslOutcome}
use Rattle.amqp_model.specs.declared.perf.Role.{Role}
use Rattle.amqp_model.specs.declared.perf.Role.TheVariants as role
use Rattle.amqp_model.specs.declared.perf.Perf.{Perf}
use Rattle.amqp_model.specs.declared.perf.Perf.TheVariants as perf
use Rattle.amqp_model.specs.Texts.{FieldText, field_bytes, described_text, spelt, mapped, ubyte_unless, ushort_unless, uint_unless, flag_text, symbols_text}

-- false is a sender
abbrev pub role_text : Role → FieldText
role_text role.Sender = spelt (d.boolean false)
role_text role.Receiver = spelt (d.boolean true)

-- the default expiry policy of a terminus
abbrev pub session_end : List ℕ
session_end = codes "session-end"

abbrev pub policy_text : List ℕ → FieldText
policy_text policy = if pointwise nat_eq policy session_end then None else spelt (d.symbol policy)

abbrev pub address_text : Option Address → FieldText
address_text None = None
address_text (Some (address.Text s)) = spelt (d.string s)
address_text (Some (address.Other bytes)) = Some bytes

-- error (part 2, section 2.8.14)
abbrev pub error_texts : Fault → List FieldText
error_texts x =
    (spelt (d.symbol x.condition)) ∷
    (mapped d.string x.description) ∷
    x.info ∷ []

abbrev pub error_text : Option Fault → FieldText
error_text None = None
error_text (Some x) = Some (described_text is.Error (error_texts x))

abbrev pub received_texts : Received → List FieldText
received_texts x =
    (spelt (d.uint x.section_number)) ∷
    (spelt (d.ulong x.section_offset)) ∷ []

abbrev pub rejected_texts : Rejected → List FieldText
rejected_texts x =
    (error_text x.error) ∷ []

abbrev pub modified_texts : Modified → List FieldText
modified_texts x =
    (flag_text x.delivery_failed) ∷
    (flag_text x.undeliverable_here) ∷
    x.message_annotations ∷ []

-- received, accepted, rejected, released, modified (part 3, sections 3.4.1 to 3.4.5)
unfoldable pub state_spelling : DeliveryState → List ℕ
state_spelling (state.Received x) = described_text is.Received (received_texts x)
state_spelling state.Accepted = described_text is.Accepted []
state_spelling (state.Rejected x) = described_text is.Rejected (rejected_texts x)
state_spelling state.Released = described_text is.Released []
state_spelling (state.Modified x) = described_text is.Modified (modified_texts x)
state_spelling (state.Other bytes) = bytes

abbrev pub state_text : Option DeliveryState → FieldText
state_text None = None
state_text (Some x) = Some (state_spelling x)

-- tags with states, one after another
abbrev pub deliveries_text : List UnsettledDelivery → List ℕ
deliveries_text [] = []
deliveries_text (u ∷ us) = field_bytes (spelt (d.binary u.tag.items)) ++ field_bytes (state_text u.state) ++ deliveries_text us

abbrev pub unsettled_text : Option (List UnsettledDelivery) → FieldText
unsettled_text None = None
unsettled_text (Some us) = Some (constructed kind.Map (compound_piece (2 * length us) (deliveries_text us)))

abbrev pub source_texts : Source → List FieldText
source_texts x =
    (address_text x.address) ∷
    (uint_unless 0 x.durable) ∷
    (policy_text x.expiry_policy) ∷
    (uint_unless 0 x.timeout) ∷
    (flag_text x.dynamic) ∷
    x.dynamic_node_properties ∷
    (mapped d.symbol x.distribution_mode) ∷
    x.filter ∷
    (state_text x.default_outcome) ∷
    (symbols_text x.outcomes) ∷
    (symbols_text x.capabilities) ∷ []

abbrev pub target_texts : Target → List FieldText
target_texts x =
    (address_text x.address) ∷
    (uint_unless 0 x.durable) ∷
    (policy_text x.expiry_policy) ∷
    (uint_unless 0 x.timeout) ∷
    (flag_text x.dynamic) ∷
    x.dynamic_node_properties ∷
    (symbols_text x.capabilities) ∷ []

abbrev pub source_text : Option SourceTerminus → FieldText
source_text None = None
source_text (Some (source.Source x)) = Some (described_text is.Source (source_texts x))
source_text (Some (source.Other bytes)) = Some bytes

abbrev pub target_text : Option TargetTerminus → FieldText
target_text None = None
target_text (Some (target.Target x)) = Some (described_text is.Target (target_texts x))
target_text (Some (target.Other bytes)) = Some bytes

abbrev pub open_texts : Open → List FieldText
open_texts x =
    (spelt (d.string x.container_id)) ∷
    (mapped d.string x.hostname) ∷
    (uint_unless 4294967295 x.max_frame_size) ∷
    (ushort_unless 65535 x.channel_max) ∷
    (mapped d.uint x.idle_time_out) ∷
    (symbols_text x.outgoing_locales) ∷
    (symbols_text x.incoming_locales) ∷
    (symbols_text x.offered_capabilities) ∷
    (symbols_text x.desired_capabilities) ∷
    x.properties ∷ []

abbrev pub begin_texts : Begin → List FieldText
begin_texts x =
    (mapped d.ushort x.remote_channel) ∷
    (spelt (d.uint x.next_outgoing_id)) ∷
    (spelt (d.uint x.incoming_window)) ∷
    (spelt (d.uint x.outgoing_window)) ∷
    (uint_unless 4294967295 x.handle_max) ∷
    (symbols_text x.offered_capabilities) ∷
    (symbols_text x.desired_capabilities) ∷
    x.properties ∷ []

abbrev pub attach_texts : Attach → List FieldText
attach_texts x =
    (spelt (d.string x.name)) ∷
    (spelt (d.uint x.handle)) ∷
    (role_text x.role) ∷
    (ubyte_unless 2 x.snd_settle_mode) ∷
    (ubyte_unless 0 x.rcv_settle_mode) ∷
    (source_text x.source) ∷
    (target_text x.target) ∷
    (unsettled_text x.unsettled) ∷
    (flag_text x.incomplete_unsettled) ∷
    (mapped d.uint x.initial_delivery_count) ∷
    (mapped d.ulong x.max_message_size) ∷
    (symbols_text x.offered_capabilities) ∷
    (symbols_text x.desired_capabilities) ∷
    x.properties ∷ []

abbrev pub flow_texts : Flow → List FieldText
flow_texts x =
    (mapped d.uint x.next_incoming_id) ∷
    (spelt (d.uint x.incoming_window)) ∷
    (spelt (d.uint x.next_outgoing_id)) ∷
    (spelt (d.uint x.outgoing_window)) ∷
    (mapped d.uint x.handle) ∷
    (mapped d.uint x.delivery_count) ∷
    (mapped d.uint x.link_credit) ∷
    (mapped d.uint x.available) ∷
    (flag_text x.drain) ∷
    (flag_text x.echo) ∷
    x.properties ∷ []

abbrev pub transfer_texts : Transfer → List FieldText
transfer_texts x =
    (spelt (d.uint x.handle)) ∷
    (mapped d.uint x.delivery_id) ∷
    (mapped (λ t. d.binary t.items) x.delivery_tag) ∷
    (mapped d.uint x.message_format) ∷
    (flag_text x.settled) ∷
    (flag_text x.more) ∷
    (mapped d.ubyte x.rcv_settle_mode) ∷
    (state_text x.state) ∷
    (flag_text x.resume) ∷
    (flag_text x.aborted) ∷
    (flag_text x.batchable) ∷ []

abbrev pub disposition_texts : Disposition → List FieldText
disposition_texts x =
    (role_text x.role) ∷
    (spelt (d.uint x.first)) ∷
    (mapped d.uint x.last) ∷
    (flag_text x.settled) ∷
    (state_text x.state) ∷
    (flag_text x.batchable) ∷ []

abbrev pub detach_texts : Detach → List FieldText
detach_texts x =
    (spelt (d.uint x.handle)) ∷
    (flag_text x.closed) ∷
    (error_text x.error) ∷ []

abbrev pub end_texts : End → List FieldText
end_texts x =
    (error_text x.error) ∷ []

abbrev pub close_texts : Close → List FieldText
close_texts x =
    (error_text x.error) ∷ []

abbrev pub sasl_mechanisms_texts : SaslMechanisms → List FieldText
sasl_mechanisms_texts x =
    (symbols_text x.mechanisms) ∷ []

abbrev pub sasl_init_texts : SaslInit → List FieldText
sasl_init_texts x =
    (spelt (d.symbol x.mechanism)) ∷
    (mapped d.binary x.initial_response) ∷
    (mapped d.string x.hostname) ∷ []

abbrev pub sasl_challenge_texts : SaslChallenge → List FieldText
sasl_challenge_texts x =
    (spelt (d.binary x.challenge)) ∷ []

abbrev pub sasl_response_texts : SaslResponse → List FieldText
sasl_response_texts x =
    (spelt (d.binary x.response)) ∷ []

abbrev pub sasl_outcome_texts : SaslOutcome → List FieldText
sasl_outcome_texts x =
    (spelt (d.ubyte x.code)) ∷
    (mapped d.binary x.additional_data) ∷ []

-- the encoding of a performative
unfoldable pub spelling : Perf → List ℕ
spelling (perf.Open x) = described_text is.Open (open_texts x)
spelling (perf.Begin x) = described_text is.Begin (begin_texts x)
spelling (perf.Attach x) = described_text is.Attach (attach_texts x)
spelling (perf.Flow x) = described_text is.Flow (flow_texts x)
spelling (perf.Transfer x) = described_text is.Transfer (transfer_texts x)
spelling (perf.Disposition x) = described_text is.Disposition (disposition_texts x)
spelling (perf.Detach x) = described_text is.Detach (detach_texts x)
spelling (perf.End x) = described_text is.End (end_texts x)
spelling (perf.Close x) = described_text is.Close (close_texts x)
spelling (perf.SaslMechanisms x) = described_text is.SaslMechanisms (sasl_mechanisms_texts x)
spelling (perf.SaslInit x) = described_text is.SaslInit (sasl_init_texts x)
spelling (perf.SaslChallenge x) = described_text is.SaslChallenge (sasl_challenge_texts x)
spelling (perf.SaslResponse x) = described_text is.SaslResponse (sasl_response_texts x)
spelling (perf.SaslOutcome x) = described_text is.SaslOutcome (sasl_outcome_texts x)
