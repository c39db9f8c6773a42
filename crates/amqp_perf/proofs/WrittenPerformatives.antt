-- Performatives that were written, read again.
use Rattle.std.proofs.Common.{◌≡◌, ℕ, ◌-◌, ◌<◌, ◌≤◌, List, [], ◌∷◌, ◌++◌, length, Some, Ok, refl, ap, ◌∙◌, arith}
use Rattle.std.proofs.lemmas.List.{length-append}
use Rattle.amqp_model.specs.Data as d
use Rattle.amqp_model.specs.declared.perf_fault.PerfFault.TheVariants as fault
use Rattle.amqp_model.specs.declared.descriptor.Descriptor.{Descriptor}
use Rattle.amqp_model.specs.declared.descriptor.Descriptor.TheVariants as is
use Rattle.amqp_model.specs.declared.state.DeliveryState.{DeliveryState}
use Rattle.amqp_model.specs.declared.perf.Perf.{Perf}
use Rattle.amqp_model.specs.declared.perf.Perf.TheVariants as perf
use Rattle.amqp_model.specs.declared.perf.Open.{Open}
use Rattle.amqp_model.specs.declared.perf.Begin.{Begin}
use Rattle.amqp_model.specs.declared.perf.Flow.{Flow}
use Rattle.amqp_model.specs.declared.perf.Transfer.{Transfer}
use Rattle.amqp_model.specs.declared.perf.Disposition.{Disposition}
use Rattle.amqp_model.specs.declared.perf.Detach.{Detach}
use Rattle.amqp_model.specs.declared.perf.End.{End}
use Rattle.amqp_model.specs.declared.perf.Close.{Close}
use Rattle.amqp_model.specs.declared.perf.SaslMechanisms.{SaslMechanisms}
use Rattle.amqp_model.specs.declared.perf.SaslInit.{SaslInit}
use Rattle.amqp_model.specs.declared.perf.SaslChallenge.{SaslChallenge}
use Rattle.amqp_model.specs.declared.perf.SaslResponse.{SaslResponse}
use Rattle.amqp_model.specs.declared.perf.SaslOutcome.{SaslOutcome}
use Rattle.amqp_model.specs.declared.perf.Attach.{Attach}
use Rattle.amqp_perf.specs.Faults.{◌>>=◌}
use Rattle.amqp_perf.specs.Performative.{ends_at, holdings_at, extras_fields, open_fields, begin_fields, flow_fields, transfer_fields, disposition_fields, detach_fields, end_fields, close_fields, sasl_mechanisms_fields, sasl_init_fields, sasl_challenge_fields, sasl_response_fields, sasl_outcome_fields, attach_fields, limit_of, body, behind, performative_by, performative_at, performative, some_state, state}
use Rattle.amqp_model.specs.Texts.{FieldText, spelt, mapped, ubyte_unless, ushort_unless, uint_unless, flag_text, symbols_text, described_text}
use Rattle.amqp_model.specs.PerfSpelling.{source_text, target_text, unsettled_text, role_text, error_text, state_text, state_spelling, open_texts, begin_texts, flow_texts, transfer_texts, disposition_texts, detach_texts, end_texts, close_texts, sasl_mechanisms_texts, sasl_init_texts, sasl_challenge_texts, sasl_response_texts, sasl_outcome_texts, attach_texts, spelling}
use Rattle.amqp_perf.specs.Fitting.{IsShort, FitsOpen, FitsBegin, FitsFlow, FitsTransfer, FitsDisposition, FitsDetach, FitsEnd, FitsClose, FitsSaslMechanisms, FitsSaslInit, FitsSaslChallenge, FitsSaslResponse, FitsSaslOutcome, FitsAttach, FitsState, Fits}
use Rattle.amqp_perf.proofs.WrittenPlaces.{found, place, place_ended}
use Rattle.amqp_perf.proofs.WrittenFields.{flag_again, role_again, ubyte_again, ubyte_unless_again, ulong_again, required_ubyte_again, ushort_again, ushort_unless_again, uint_again, uint_unless_again, required_uint_again, text_again, required_text_again, required_symbol_again, binary_again, required_binary_again, tag_again, map_again, symbols_again, required_symbols_again, unless_or}
use Rattle.amqp_perf.proofs.WrittenLists.{list_of, opening_again, fields_again}
use Rattle.amqp_perf.proofs.WrittenStates.{error_at_again, state_at_again, state_in_again}
use Rattle.amqp_perf.proofs.WrittenTermini.{source_at_again, target_at_again}
use Rattle.amqp_perf.proofs.WrittenUnsettled.{unsettled_at_again}

-- ---- the fields of each

open_again : (x : Open) → FitsOpen x → open_fields (place 30 (open_texts x)) ≡ Ok x
unfolding open_fields
open_again x h =
    rw (
      required_text_again 29 x.container_id ((mapped d.string x.hostname) ∷ (uint_unless 4294967295 x.max_frame_size) ∷ (ushort_unless 65535 x.channel_max) ∷ (mapped d.uint x.idle_time_out) ∷ (symbols_text x.outgoing_locales) ∷ (symbols_text x.incoming_locales) ∷ (symbols_text x.offered_capabilities) ∷ (symbols_text x.desired_capabilities) ∷ (x.properties) ∷ []) h.container_id,
      text_again 29 x.hostname ((uint_unless 4294967295 x.max_frame_size) ∷ (ushort_unless 65535 x.channel_max) ∷ (mapped d.uint x.idle_time_out) ∷ (symbols_text x.outgoing_locales) ∷ (symbols_text x.incoming_locales) ∷ (symbols_text x.offered_capabilities) ∷ (symbols_text x.desired_capabilities) ∷ (x.properties) ∷ []) h.hostname,
      uint_unless_again 29 4294967295 x.max_frame_size ((ushort_unless 65535 x.channel_max) ∷ (mapped d.uint x.idle_time_out) ∷ (symbols_text x.outgoing_locales) ∷ (symbols_text x.incoming_locales) ∷ (symbols_text x.offered_capabilities) ∷ (symbols_text x.desired_capabilities) ∷ (x.properties) ∷ []) h.max_frame_size,
      ushort_unless_again 29 65535 x.channel_max ((mapped d.uint x.idle_time_out) ∷ (symbols_text x.outgoing_locales) ∷ (symbols_text x.incoming_locales) ∷ (symbols_text x.offered_capabilities) ∷ (symbols_text x.desired_capabilities) ∷ (x.properties) ∷ []) h.channel_max,
      uint_again 29 x.idle_time_out ((symbols_text x.outgoing_locales) ∷ (symbols_text x.incoming_locales) ∷ (symbols_text x.offered_capabilities) ∷ (symbols_text x.desired_capabilities) ∷ (x.properties) ∷ []) h.idle_time_out,
      symbols_again 28 x.outgoing_locales ((symbols_text x.incoming_locales) ∷ (symbols_text x.offered_capabilities) ∷ (symbols_text x.desired_capabilities) ∷ (x.properties) ∷ []) h.outgoing_locales,
      symbols_again 28 x.incoming_locales ((symbols_text x.offered_capabilities) ∷ (symbols_text x.desired_capabilities) ∷ (x.properties) ∷ []) h.incoming_locales,
      symbols_again 28 x.offered_capabilities ((symbols_text x.desired_capabilities) ∷ (x.properties) ∷ []) h.offered_capabilities,
      symbols_again 28 x.desired_capabilities ((x.properties) ∷ []) h.desired_capabilities,
      map_again 29 x.properties [] h.properties,
      place_ended 30,
      unless_or 4294967295 x.max_frame_size,
      unless_or 65535 x.channel_max,
    ) refl

begin_again : (x : Begin) → FitsBegin x → begin_fields (place 30 (begin_texts x)) ≡ Ok x
unfolding begin_fields
begin_again x h =
    rw (
      ushort_again 29 x.remote_channel ((spelt (d.uint x.next_outgoing_id)) ∷ (spelt (d.uint x.incoming_window)) ∷ (spelt (d.uint x.outgoing_window)) ∷ (uint_unless 4294967295 x.handle_max) ∷ (symbols_text x.offered_capabilities) ∷ (symbols_text x.desired_capabilities) ∷ (x.properties) ∷ []) h.remote_channel,
      required_uint_again 29 x.next_outgoing_id ((spelt (d.uint x.incoming_window)) ∷ (spelt (d.uint x.outgoing_window)) ∷ (uint_unless 4294967295 x.handle_max) ∷ (symbols_text x.offered_capabilities) ∷ (symbols_text x.desired_capabilities) ∷ (x.properties) ∷ []) h.next_outgoing_id,
      required_uint_again 29 x.incoming_window ((spelt (d.uint x.outgoing_window)) ∷ (uint_unless 4294967295 x.handle_max) ∷ (symbols_text x.offered_capabilities) ∷ (symbols_text x.desired_capabilities) ∷ (x.properties) ∷ []) h.incoming_window,
      required_uint_again 29 x.outgoing_window ((uint_unless 4294967295 x.handle_max) ∷ (symbols_text x.offered_capabilities) ∷ (symbols_text x.desired_capabilities) ∷ (x.properties) ∷ []) h.outgoing_window,
      uint_unless_again 29 4294967295 x.handle_max ((symbols_text x.offered_capabilities) ∷ (symbols_text x.desired_capabilities) ∷ (x.properties) ∷ []) h.handle_max,
      symbols_again 28 x.offered_capabilities ((symbols_text x.desired_capabilities) ∷ (x.properties) ∷ []) h.offered_capabilities,
      symbols_again 28 x.desired_capabilities ((x.properties) ∷ []) h.desired_capabilities,
      map_again 29 x.properties [] h.properties,
      place_ended 30,
      unless_or 4294967295 x.handle_max,
    ) refl

flow_again : (x : Flow) → FitsFlow x → flow_fields (place 30 (flow_texts x)) ≡ Ok x
unfolding flow_fields
flow_again x h =
    rw (
      uint_again 29 x.next_incoming_id ((spelt (d.uint x.incoming_window)) ∷ (spelt (d.uint x.next_outgoing_id)) ∷ (spelt (d.uint x.outgoing_window)) ∷ (mapped d.uint x.handle) ∷ (mapped d.uint x.delivery_count) ∷ (mapped d.uint x.link_credit) ∷ (mapped d.uint x.available) ∷ (flag_text x.drain) ∷ (flag_text x.echo) ∷ (x.properties) ∷ []) h.next_incoming_id,
      required_uint_again 29 x.incoming_window ((spelt (d.uint x.next_outgoing_id)) ∷ (spelt (d.uint x.outgoing_window)) ∷ (mapped d.uint x.handle) ∷ (mapped d.uint x.delivery_count) ∷ (mapped d.uint x.link_credit) ∷ (mapped d.uint x.available) ∷ (flag_text x.drain) ∷ (flag_text x.echo) ∷ (x.properties) ∷ []) h.incoming_window,
      required_uint_again 29 x.next_outgoing_id ((spelt (d.uint x.outgoing_window)) ∷ (mapped d.uint x.handle) ∷ (mapped d.uint x.delivery_count) ∷ (mapped d.uint x.link_credit) ∷ (mapped d.uint x.available) ∷ (flag_text x.drain) ∷ (flag_text x.echo) ∷ (x.properties) ∷ []) h.next_outgoing_id,
      required_uint_again 29 x.outgoing_window ((mapped d.uint x.handle) ∷ (mapped d.uint x.delivery_count) ∷ (mapped d.uint x.link_credit) ∷ (mapped d.uint x.available) ∷ (flag_text x.drain) ∷ (flag_text x.echo) ∷ (x.properties) ∷ []) h.outgoing_window,
      uint_again 29 x.handle ((mapped d.uint x.delivery_count) ∷ (mapped d.uint x.link_credit) ∷ (mapped d.uint x.available) ∷ (flag_text x.drain) ∷ (flag_text x.echo) ∷ (x.properties) ∷ []) h.handle,
      uint_again 29 x.delivery_count ((mapped d.uint x.link_credit) ∷ (mapped d.uint x.available) ∷ (flag_text x.drain) ∷ (flag_text x.echo) ∷ (x.properties) ∷ []) h.delivery_count,
      uint_again 29 x.link_credit ((mapped d.uint x.available) ∷ (flag_text x.drain) ∷ (flag_text x.echo) ∷ (x.properties) ∷ []) h.link_credit,
      uint_again 29 x.available ((flag_text x.drain) ∷ (flag_text x.echo) ∷ (x.properties) ∷ []) h.available,
      flag_again 29 x.drain ((flag_text x.echo) ∷ (x.properties) ∷ []),
      flag_again 29 x.echo ((x.properties) ∷ []),
      map_again 29 x.properties [] h.properties,
      place_ended 30,
    ) refl

transfer_again : (x : Transfer) → FitsTransfer x → transfer_fields (place 30 (transfer_texts x)) ≡ Ok x
unfolding transfer_fields
transfer_again x h =
    rw (
      required_uint_again 29 x.handle ((mapped d.uint x.delivery_id) ∷ (mapped (λ t. d.binary t.items) x.delivery_tag) ∷ (mapped d.uint x.message_format) ∷ (flag_text x.settled) ∷ (flag_text x.more) ∷ (mapped d.ubyte x.rcv_settle_mode) ∷ (state_text x.state) ∷ (flag_text x.resume) ∷ (flag_text x.aborted) ∷ (flag_text x.batchable) ∷ []) h.handle,
      uint_again 29 x.delivery_id ((mapped (λ t. d.binary t.items) x.delivery_tag) ∷ (mapped d.uint x.message_format) ∷ (flag_text x.settled) ∷ (flag_text x.more) ∷ (mapped d.ubyte x.rcv_settle_mode) ∷ (state_text x.state) ∷ (flag_text x.resume) ∷ (flag_text x.aborted) ∷ (flag_text x.batchable) ∷ []) h.delivery_id,
      tag_again 29 x.delivery_tag ((mapped d.uint x.message_format) ∷ (flag_text x.settled) ∷ (flag_text x.more) ∷ (mapped d.ubyte x.rcv_settle_mode) ∷ (state_text x.state) ∷ (flag_text x.resume) ∷ (flag_text x.aborted) ∷ (flag_text x.batchable) ∷ []) h.delivery_tag,
      uint_again 29 x.message_format ((flag_text x.settled) ∷ (flag_text x.more) ∷ (mapped d.ubyte x.rcv_settle_mode) ∷ (state_text x.state) ∷ (flag_text x.resume) ∷ (flag_text x.aborted) ∷ (flag_text x.batchable) ∷ []) h.message_format,
      flag_again 29 x.settled ((flag_text x.more) ∷ (mapped d.ubyte x.rcv_settle_mode) ∷ (state_text x.state) ∷ (flag_text x.resume) ∷ (flag_text x.aborted) ∷ (flag_text x.batchable) ∷ []),
      flag_again 29 x.more ((mapped d.ubyte x.rcv_settle_mode) ∷ (state_text x.state) ∷ (flag_text x.resume) ∷ (flag_text x.aborted) ∷ (flag_text x.batchable) ∷ []),
      ubyte_again 29 x.rcv_settle_mode ((state_text x.state) ∷ (flag_text x.resume) ∷ (flag_text x.aborted) ∷ (flag_text x.batchable) ∷ []) h.rcv_settle_mode,
      state_at_again 25 x.state ((flag_text x.resume) ∷ (flag_text x.aborted) ∷ (flag_text x.batchable) ∷ []) h.state,
      flag_again 29 x.resume ((flag_text x.aborted) ∷ (flag_text x.batchable) ∷ []),
      flag_again 29 x.aborted ((flag_text x.batchable) ∷ []),
      flag_again 29 x.batchable [],
      place_ended 30,
    ) refl

disposition_again : (x : Disposition) → FitsDisposition x → disposition_fields (place 30 (disposition_texts x)) ≡ Ok x
unfolding disposition_fields
disposition_again x h =
    rw (
      role_again 29 x.role ((spelt (d.uint x.first)) ∷ (mapped d.uint x.last) ∷ (flag_text x.settled) ∷ (state_text x.state) ∷ (flag_text x.batchable) ∷ []),
      required_uint_again 29 x.first ((mapped d.uint x.last) ∷ (flag_text x.settled) ∷ (state_text x.state) ∷ (flag_text x.batchable) ∷ []) h.first,
      uint_again 29 x.last ((flag_text x.settled) ∷ (state_text x.state) ∷ (flag_text x.batchable) ∷ []) h.last,
      flag_again 29 x.settled ((state_text x.state) ∷ (flag_text x.batchable) ∷ []),
      state_at_again 25 x.state ((flag_text x.batchable) ∷ []) h.state,
      flag_again 29 x.batchable [],
      place_ended 30,
    ) refl

detach_again : (x : Detach) → FitsDetach x → detach_fields (place 30 (detach_texts x)) ≡ Ok x
unfolding detach_fields
detach_again x h =
    rw (
      required_uint_again 29 x.handle ((flag_text x.closed) ∷ (error_text x.error) ∷ []) h.handle,
      flag_again 29 x.closed ((error_text x.error) ∷ []),
      error_at_again 27 x.error [] h.error,
      place_ended 30,
    ) refl

end_again : (x : End) → FitsEnd x → end_fields (place 30 (end_texts x)) ≡ Ok x
unfolding end_fields
end_again x h =
    rw (
      error_at_again 27 x.error [] h.error,
      place_ended 30,
    ) refl

close_again : (x : Close) → FitsClose x → close_fields (place 30 (close_texts x)) ≡ Ok x
unfolding close_fields
close_again x h =
    rw (
      error_at_again 27 x.error [] h.error,
      place_ended 30,
    ) refl

sasl_mechanisms_again : (x : SaslMechanisms) → FitsSaslMechanisms x → sasl_mechanisms_fields (place 30 (sasl_mechanisms_texts x)) ≡ Ok x
unfolding sasl_mechanisms_fields
sasl_mechanisms_again x h =
    rw (
      required_symbols_again 28 x.mechanisms [] h.mechanisms h.some,
      place_ended 30,
    ) refl

sasl_init_again : (x : SaslInit) → FitsSaslInit x → sasl_init_fields (place 30 (sasl_init_texts x)) ≡ Ok x
unfolding sasl_init_fields
sasl_init_again x h =
    rw (
      required_symbol_again 29 x.mechanism ((mapped d.binary x.initial_response) ∷ (mapped d.string x.hostname) ∷ []) h.mechanism,
      binary_again 29 x.initial_response ((mapped d.string x.hostname) ∷ []) h.initial_response,
      text_again 29 x.hostname [] h.hostname,
      place_ended 30,
    ) refl

sasl_challenge_again : (x : SaslChallenge) → FitsSaslChallenge x → sasl_challenge_fields (place 30 (sasl_challenge_texts x)) ≡ Ok x
unfolding sasl_challenge_fields
sasl_challenge_again x h =
    rw (
      required_binary_again 29 x.challenge [] h.challenge,
      place_ended 30,
    ) refl

sasl_response_again : (x : SaslResponse) → FitsSaslResponse x → sasl_response_fields (place 30 (sasl_response_texts x)) ≡ Ok x
unfolding sasl_response_fields
sasl_response_again x h =
    rw (
      required_binary_again 29 x.response [] h.response,
      place_ended 30,
    ) refl

sasl_outcome_again : (x : SaslOutcome) → FitsSaslOutcome x → sasl_outcome_fields (place 30 (sasl_outcome_texts x)) ≡ Ok x
unfolding sasl_outcome_fields
sasl_outcome_again x h =
    rw (
      required_ubyte_again 29 x.code ((mapped d.binary x.additional_data) ∷ []) h.code,
      binary_again 29 x.additional_data [] h.additional_data,
      place_ended 30,
    ) refl

-- attach: its first seven fields, the next four, then the others
ends_again : (x : Attach) → FitsAttach x → ends_at (place 30 (attach_texts x))
    ≡ Ok (record { name = x.name; handle = x.handle; role = x.role; snd_settle_mode = x.snd_settle_mode; rcv_settle_mode = x.rcv_settle_mode; source = x.source; target = x.target }, place 30 ((unsettled_text x.unsettled) ∷ (flag_text x.incomplete_unsettled) ∷ (mapped d.uint x.initial_delivery_count) ∷ (mapped d.ulong x.max_message_size) ∷ (symbols_text x.offered_capabilities) ∷ (symbols_text x.desired_capabilities) ∷ (x.properties) ∷ []))
unfolding ends_at
ends_again x h =
    rw (
      required_text_again 29 x.name ((spelt (d.uint x.handle)) ∷ (role_text x.role) ∷ (ubyte_unless 2 x.snd_settle_mode) ∷ (ubyte_unless 0 x.rcv_settle_mode) ∷ (source_text x.source) ∷ (target_text x.target) ∷ (unsettled_text x.unsettled) ∷ (flag_text x.incomplete_unsettled) ∷ (mapped d.uint x.initial_delivery_count) ∷ (mapped d.ulong x.max_message_size) ∷ (symbols_text x.offered_capabilities) ∷ (symbols_text x.desired_capabilities) ∷ (x.properties) ∷ []) h.name,
      required_uint_again 29 x.handle ((role_text x.role) ∷ (ubyte_unless 2 x.snd_settle_mode) ∷ (ubyte_unless 0 x.rcv_settle_mode) ∷ (source_text x.source) ∷ (target_text x.target) ∷ (unsettled_text x.unsettled) ∷ (flag_text x.incomplete_unsettled) ∷ (mapped d.uint x.initial_delivery_count) ∷ (mapped d.ulong x.max_message_size) ∷ (symbols_text x.offered_capabilities) ∷ (symbols_text x.desired_capabilities) ∷ (x.properties) ∷ []) h.handle,
      role_again 29 x.role ((ubyte_unless 2 x.snd_settle_mode) ∷ (ubyte_unless 0 x.rcv_settle_mode) ∷ (source_text x.source) ∷ (target_text x.target) ∷ (unsettled_text x.unsettled) ∷ (flag_text x.incomplete_unsettled) ∷ (mapped d.uint x.initial_delivery_count) ∷ (mapped d.ulong x.max_message_size) ∷ (symbols_text x.offered_capabilities) ∷ (symbols_text x.desired_capabilities) ∷ (x.properties) ∷ []),
      ubyte_unless_again 29 2 x.snd_settle_mode ((ubyte_unless 0 x.rcv_settle_mode) ∷ (source_text x.source) ∷ (target_text x.target) ∷ (unsettled_text x.unsettled) ∷ (flag_text x.incomplete_unsettled) ∷ (mapped d.uint x.initial_delivery_count) ∷ (mapped d.ulong x.max_message_size) ∷ (symbols_text x.offered_capabilities) ∷ (symbols_text x.desired_capabilities) ∷ (x.properties) ∷ []) h.snd_settle_mode,
      ubyte_unless_again 29 0 x.rcv_settle_mode ((source_text x.source) ∷ (target_text x.target) ∷ (unsettled_text x.unsettled) ∷ (flag_text x.incomplete_unsettled) ∷ (mapped d.uint x.initial_delivery_count) ∷ (mapped d.ulong x.max_message_size) ∷ (symbols_text x.offered_capabilities) ∷ (symbols_text x.desired_capabilities) ∷ (x.properties) ∷ []) h.rcv_settle_mode,
      source_at_again x.source ((target_text x.target) ∷ (unsettled_text x.unsettled) ∷ (flag_text x.incomplete_unsettled) ∷ (mapped d.uint x.initial_delivery_count) ∷ (mapped d.ulong x.max_message_size) ∷ (symbols_text x.offered_capabilities) ∷ (symbols_text x.desired_capabilities) ∷ (x.properties) ∷ []) h.source,
      target_at_again x.target ((unsettled_text x.unsettled) ∷ (flag_text x.incomplete_unsettled) ∷ (mapped d.uint x.initial_delivery_count) ∷ (mapped d.ulong x.max_message_size) ∷ (symbols_text x.offered_capabilities) ∷ (symbols_text x.desired_capabilities) ∷ (x.properties) ∷ []) h.target,
      unless_or 2 x.snd_settle_mode,
      unless_or 0 x.rcv_settle_mode,
    ) refl

holdings_again : (x : Attach) → FitsAttach x → holdings_at (place 30 ((unsettled_text x.unsettled) ∷ (flag_text x.incomplete_unsettled) ∷ (mapped d.uint x.initial_delivery_count) ∷ (mapped d.ulong x.max_message_size) ∷ (symbols_text x.offered_capabilities) ∷ (symbols_text x.desired_capabilities) ∷ (x.properties) ∷ []))
    ≡ Ok (record { unsettled = x.unsettled; incomplete_unsettled = x.incomplete_unsettled; initial_delivery_count = x.initial_delivery_count; max_message_size = x.max_message_size }, place 30 ((symbols_text x.offered_capabilities) ∷ (symbols_text x.desired_capabilities) ∷ (x.properties) ∷ []))
unfolding holdings_at
holdings_again x h =
    rw (
      unsettled_at_again x.unsettled ((flag_text x.incomplete_unsettled) ∷ (mapped d.uint x.initial_delivery_count) ∷ (mapped d.ulong x.max_message_size) ∷ (symbols_text x.offered_capabilities) ∷ (symbols_text x.desired_capabilities) ∷ (x.properties) ∷ []) h.unsettled,
      flag_again 29 x.incomplete_unsettled ((mapped d.uint x.initial_delivery_count) ∷ (mapped d.ulong x.max_message_size) ∷ (symbols_text x.offered_capabilities) ∷ (symbols_text x.desired_capabilities) ∷ (x.properties) ∷ []),
      uint_again 29 x.initial_delivery_count ((mapped d.ulong x.max_message_size) ∷ (symbols_text x.offered_capabilities) ∷ (symbols_text x.desired_capabilities) ∷ (x.properties) ∷ []) h.initial_delivery_count,
      ulong_again 29 x.max_message_size ((symbols_text x.offered_capabilities) ∷ (symbols_text x.desired_capabilities) ∷ (x.properties) ∷ []) h.max_message_size,
    ) refl

extras_again : (x : Attach) → FitsAttach x → extras_fields (place 30 ((symbols_text x.offered_capabilities) ∷ (symbols_text x.desired_capabilities) ∷ (x.properties) ∷ []))
    ≡ Ok (record { offered_capabilities = x.offered_capabilities; desired_capabilities = x.desired_capabilities; properties = x.properties })
unfolding extras_fields
extras_again x h =
    rw (
      symbols_again 28 x.offered_capabilities ((symbols_text x.desired_capabilities) ∷ (x.properties) ∷ []) h.offered_capabilities,
      symbols_again 28 x.desired_capabilities ((x.properties) ∷ []) h.desired_capabilities,
      map_again 29 x.properties [] h.properties,
      place_ended 30,
    ) refl

attach_again : (x : Attach) → FitsAttach x → attach_fields (place 30 (attach_texts x)) ≡ Ok x
unfolding attach_fields
attach_again x h = rw (ends_again x h, holdings_again x h, extras_again x h) refl

-- ---- all

listed_again : (name : Descriptor) (limit : ℕ) (fs : List FieldText) (p : Perf) (rest : List ℕ)
    → limit_of name ≡ Some limit → length fs ≤ limit → limit < 256 → IsShort fs → body name (place 30 fs) ≡ Ok p → performative_at (described_text name fs ++ rest) ≡ Ok (p, rest)
unfolding performative_at
listed_again name limit fs p rest limited few small short same =
    ap (λ r. r >>= performative_by (described_text name fs ++ rest)) (opening_again 30 name fs rest)
    ∙ ap (λ l. behind name l (list_of fs ++ rest)) limited
    ∙ fields_again 29 limit fault.NotPerformative fs rest (body name) (λ y. y) p few small short same

performative_at_again : (p : Perf) (rest : List ℕ) → Fits p → performative_at (spelling p ++ rest) ≡ Ok (p, rest)
unfolding spelling
performative_at_again (perf.Open x) rest h = listed_again is.Open 10 (open_texts x) (perf.Open x) rest refl (omega arith) (omega arith) h.whole (ap (λ r. r >>= λ y. found (perf.Open y)) (open_again x h))
performative_at_again (perf.Begin x) rest h = listed_again is.Begin 8 (begin_texts x) (perf.Begin x) rest refl (omega arith) (omega arith) h.whole (ap (λ r. r >>= λ y. found (perf.Begin y)) (begin_again x h))
performative_at_again (perf.Flow x) rest h = listed_again is.Flow 11 (flow_texts x) (perf.Flow x) rest refl (omega arith) (omega arith) h.whole (ap (λ r. r >>= λ y. found (perf.Flow y)) (flow_again x h))
performative_at_again (perf.Transfer x) rest h = listed_again is.Transfer 11 (transfer_texts x) (perf.Transfer x) rest refl (omega arith) (omega arith) h.whole (ap (λ r. r >>= λ y. found (perf.Transfer y)) (transfer_again x h))
performative_at_again (perf.Disposition x) rest h = listed_again is.Disposition 6 (disposition_texts x) (perf.Disposition x) rest refl (omega arith) (omega arith) h.whole (ap (λ r. r >>= λ y. found (perf.Disposition y)) (disposition_again x h))
performative_at_again (perf.Detach x) rest h = listed_again is.Detach 3 (detach_texts x) (perf.Detach x) rest refl (omega arith) (omega arith) h.whole (ap (λ r. r >>= λ y. found (perf.Detach y)) (detach_again x h))
performative_at_again (perf.End x) rest h = listed_again is.End 1 (end_texts x) (perf.End x) rest refl (omega arith) (omega arith) h.whole (ap (λ r. r >>= λ y. found (perf.End y)) (end_again x h))
performative_at_again (perf.Close x) rest h = listed_again is.Close 1 (close_texts x) (perf.Close x) rest refl (omega arith) (omega arith) h.whole (ap (λ r. r >>= λ y. found (perf.Close y)) (close_again x h))
performative_at_again (perf.SaslMechanisms x) rest h = listed_again is.SaslMechanisms 1 (sasl_mechanisms_texts x) (perf.SaslMechanisms x) rest refl (omega arith) (omega arith) h.whole (ap (λ r. r >>= λ y. found (perf.SaslMechanisms y)) (sasl_mechanisms_again x h))
performative_at_again (perf.SaslInit x) rest h = listed_again is.SaslInit 3 (sasl_init_texts x) (perf.SaslInit x) rest refl (omega arith) (omega arith) h.whole (ap (λ r. r >>= λ y. found (perf.SaslInit y)) (sasl_init_again x h))
performative_at_again (perf.SaslChallenge x) rest h = listed_again is.SaslChallenge 1 (sasl_challenge_texts x) (perf.SaslChallenge x) rest refl (omega arith) (omega arith) h.whole (ap (λ r. r >>= λ y. found (perf.SaslChallenge y)) (sasl_challenge_again x h))
performative_at_again (perf.SaslResponse x) rest h = listed_again is.SaslResponse 1 (sasl_response_texts x) (perf.SaslResponse x) rest refl (omega arith) (omega arith) h.whole (ap (λ r. r >>= λ y. found (perf.SaslResponse y)) (sasl_response_again x h))
performative_at_again (perf.SaslOutcome x) rest h = listed_again is.SaslOutcome 2 (sasl_outcome_texts x) (perf.SaslOutcome x) rest refl (omega arith) (omega arith) h.whole (ap (λ r. r >>= λ y. found (perf.SaslOutcome y)) (sasl_outcome_again x h))
performative_at_again (perf.Attach x) rest h = listed_again is.Attach 14 (attach_texts x) (perf.Attach x) rest refl (omega arith) (omega arith) h.whole (ap (λ r. r >>= λ y. found (perf.Attach y)) (attach_again x h))

length_again : (text rest : List ℕ) → length (text ++ rest) - length rest ≡ length text
length_again text rest = let e = length-append text rest in omega (arith, e)

pub performative_again : (p : Perf) (rest : List ℕ) → Fits p → performative (spelling p ++ rest) ≡ Ok (p, length (spelling p))
unfolding performative
performative_again p rest h =
    ap (λ r. r >>= λ x. found (x.0, length (spelling p ++ rest) - length x.1)) (performative_at_again p rest h)
    ∙ ap (λ n. found (p, n)) (length_again (spelling p) rest)

pub state_again : (s : DeliveryState) (rest : List ℕ) → FitsState 32 s → state (state_spelling s ++ rest) ≡ Ok (s, length (state_spelling s))
unfolding state
state_again s rest h =
    ap (λ r. r >>= some_state (state_spelling s ++ rest)) (state_in_again 27 s rest h)
    ∙ ap (λ n. found (s, n)) (length_again (state_spelling s) rest)
