-- The fields of each performative and SASL body against its table.
use Rattle.std.proofs.Common.{◌≡◌, false, List, [], ◌∷◌, Ok, refl, subst}
use Rattle.amqp_model.specs.declared.perf.Open.{Open}
use Rattle.amqp_model.specs.declared.perf.Begin.{Begin}
use Rattle.amqp_model.specs.declared.perf.Attach.{Attach}
use Rattle.amqp_model.specs.declared.perf.Flow.{Flow}
use Rattle.amqp_model.specs.declared.perf.Transfer.{Transfer}
use Rattle.amqp_model.specs.declared.perf.Disposition.{Disposition}
use Rattle.amqp_model.specs.declared.perf.Detach.{Detach}
use Rattle.amqp_model.specs.declared.perf.End.{End}
use Rattle.amqp_model.specs.declared.perf.Close.{Close}
use Rattle.amqp_model.specs.declared.perf.SaslMechanisms.{SaslMechanisms}
use Rattle.amqp_model.specs.declared.perf.SaslInit.{SaslInit}
use Rattle.amqp_model.specs.declared.perf.SaslChallenge.{SaslChallenge}
use Rattle.amqp_model.specs.declared.perf.SaslResponse.{SaslResponse}
use Rattle.amqp_model.specs.declared.perf.SaslOutcome.{SaslOutcome}
use Rattle.amqp_perf.specs.declared.read_perfs.LinkEnds.{LinkEnds}
use Rattle.amqp_perf.specs.declared.read_perfs.LinkHoldings.{LinkHoldings}
use Rattle.amqp_perf.specs.declared.read_perfs.LinkExtras.{LinkExtras}
use Rattle.amqp_perf.specs.Fields.{At}
use Rattle.amqp_perf.specs.Performative.{ends_at, holdings_at, extras_fields, open_fields, begin_fields, attach_fields, flow_fields, transfer_fields, disposition_fields, detach_fields, end_fields, close_fields, sasl_mechanisms_fields, sasl_init_fields, sasl_challenge_fields, sasl_response_fields, sasl_outcome_fields}
use Rattle.amqp_perf.specs.Tables.{Field, mandatory, optional, defaulted, multiple, boolean, ubyte, ushort, uint, ulong, string, map, role_kind}
use Rattle.amqp_perf.specs.ListTables.{source_terminus, target_terminus, deliveries, open_table, begin_table, attach_table, flow_table, transfer_table, disposition_table, detach_table, end_table, close_table, sasl_mechanisms_table, sasl_init_table, sasl_challenge_table, sasl_response_table, sasl_outcome_table}
use Rattle.amqp_perf.proofs.TablePlaces.{found_is, Ready, Read, moved, ended_ready, TakesFirst, Part, taken, field, last, given}
use Rattle.amqp_perf.proofs.TableFields.{optional_ubyte, mandatory_ubyte, optional_ushort, optional_uint, mandatory_uint, optional_ulong, optional_string, mandatory_string, mandatory_symbol, optional_binary, mandatory_binary, optional_tag, optional_map, flag_agrees, mandatory_role, multiple_agrees, some_agree, defaulted_moves, given_or}
use Rattle.amqp_perf.proofs.TableStates.{optional_error, optional_state}
use Rattle.amqp_perf.proofs.TableTermini.{optional_source, optional_target}
use Rattle.amqp_perf.proofs.TableUnsettled.{optional_unsettled}

pub open_sound : (at : At) (x : Open) → at.depth ≡ 30 → open_fields at ≡ Ok x → Read at (open_table x)
unfolding open_fields
open_sound at x deep e =
    field (mandatory_string 30) at _ x deep e (λ x1 at1 d1 m1 e1.
    field (optional_string 30) at1 _ x d1 e1 (λ x2 at2 d2 m2 e2.
    field (optional_uint 30) at2 _ x d2 e2 (λ x3 at3 d3 m3 e3.
    field (optional_ushort 30) at3 _ x d3 e3 (λ x4 at4 d4 m4 e4.
    field (optional_uint 30) at4 _ x d4 e4 (λ x5 at5 d5 m5 e5.
    field (multiple_agrees 30) at5 _ x d5 e5 (λ x6 at6 d6 m6 e6.
    field (multiple_agrees 30) at6 _ x d6 e6 (λ x7 at7 d7 m7 e7.
    field (multiple_agrees 30) at7 _ x d7 e7 (λ x8 at8 d8 m8 e8.
    field (multiple_agrees 30) at8 _ x d8 e8 (λ x9 at9 d9 m9 e9.
    field (optional_map 30) at9 _ x d9 e9 (λ x10 at10 d10 m10 e10.
    last at10 _ x e10 (λ end is.
    subst (λ y. Read at (open_table y)) (found_is _ x is) (moved at _ _ at1 m1 (moved at1 _ _ at2 m2 (moved at2 _ _ at3 (defaulted_moves uint 4294967295 x3 at2 at3 m3) (moved at3 _ _ at4 (defaulted_moves ushort 65535 x4 at3 at4 m4) (moved at4 _ _ at5 m5 (moved at5 _ _ at6 m6 (moved at6 _ _ at7 m7 (moved at7 _ _ at8 m8 (moved at8 _ _ at9 m9 (moved at9 _ _ at10 m10 end)))))))))))))))))))))

pub open_complete : (at : At) (x : Open) → at.depth ≡ 30 → Ready at (open_table x) → open_fields at ≡ Ok x
unfolding open_fields
open_complete at x deep r =
    given (mandatory_string 30) at x.container_id _ deep r (λ at1 d1 e1 r1.
    given (optional_string 30) at1 x.hostname _ d1 r1 (λ at2 d2 e2 r2.
    given_or uint 4294967295 (optional_uint 30) at2 x.max_frame_size _ d2 r2 (λ o3 at3 h3 d3 e3 r3.
    given_or ushort 65535 (optional_ushort 30) at3 x.channel_max _ d3 r3 (λ o4 at4 h4 d4 e4 r4.
    given (optional_uint 30) at4 x.idle_time_out _ d4 r4 (λ at5 d5 e5 r5.
    given (multiple_agrees 30) at5 x.outgoing_locales _ d5 r5 (λ at6 d6 e6 r6.
    given (multiple_agrees 30) at6 x.incoming_locales _ d6 r6 (λ at7 d7 e7 r7.
    given (multiple_agrees 30) at7 x.offered_capabilities _ d7 r7 (λ at8 d8 e8 r8.
    given (multiple_agrees 30) at8 x.desired_capabilities _ d8 r8 (λ at9 d9 e9 r9.
    given (optional_map 30) at9 x.properties _ d9 r9 (λ at10 d10 e10 r10.
    rw (e1, e2, e3, e4, e5, e6, e7, e8, e9, e10, ended_ready at10 r10, h3, h4) refl))))))))))

pub begin_sound : (at : At) (x : Begin) → at.depth ≡ 30 → begin_fields at ≡ Ok x → Read at (begin_table x)
unfolding begin_fields
begin_sound at x deep e =
    field (optional_ushort 30) at _ x deep e (λ x1 at1 d1 m1 e1.
    field (mandatory_uint 30) at1 _ x d1 e1 (λ x2 at2 d2 m2 e2.
    field (mandatory_uint 30) at2 _ x d2 e2 (λ x3 at3 d3 m3 e3.
    field (mandatory_uint 30) at3 _ x d3 e3 (λ x4 at4 d4 m4 e4.
    field (optional_uint 30) at4 _ x d4 e4 (λ x5 at5 d5 m5 e5.
    field (multiple_agrees 30) at5 _ x d5 e5 (λ x6 at6 d6 m6 e6.
    field (multiple_agrees 30) at6 _ x d6 e6 (λ x7 at7 d7 m7 e7.
    field (optional_map 30) at7 _ x d7 e7 (λ x8 at8 d8 m8 e8.
    last at8 _ x e8 (λ end is.
    subst (λ y. Read at (begin_table y)) (found_is _ x is) (moved at _ _ at1 m1 (moved at1 _ _ at2 m2 (moved at2 _ _ at3 m3 (moved at3 _ _ at4 m4 (moved at4 _ _ at5 (defaulted_moves uint 4294967295 x5 at4 at5 m5) (moved at5 _ _ at6 m6 (moved at6 _ _ at7 m7 (moved at7 _ _ at8 m8 end)))))))))))))))))

pub begin_complete : (at : At) (x : Begin) → at.depth ≡ 30 → Ready at (begin_table x) → begin_fields at ≡ Ok x
unfolding begin_fields
begin_complete at x deep r =
    given (optional_ushort 30) at x.remote_channel _ deep r (λ at1 d1 e1 r1.
    given (mandatory_uint 30) at1 x.next_outgoing_id _ d1 r1 (λ at2 d2 e2 r2.
    given (mandatory_uint 30) at2 x.incoming_window _ d2 r2 (λ at3 d3 e3 r3.
    given (mandatory_uint 30) at3 x.outgoing_window _ d3 r3 (λ at4 d4 e4 r4.
    given_or uint 4294967295 (optional_uint 30) at4 x.handle_max _ d4 r4 (λ o5 at5 h5 d5 e5 r5.
    given (multiple_agrees 30) at5 x.offered_capabilities _ d5 r5 (λ at6 d6 e6 r6.
    given (multiple_agrees 30) at6 x.desired_capabilities _ d6 r6 (λ at7 d7 e7 r7.
    given (optional_map 30) at7 x.properties _ d7 r7 (λ at8 d8 e8 r8.
    rw (e1, e2, e3, e4, e5, e6, e7, e8, ended_ready at8 r8, h5) refl))))))))

-- attach is read in three parts
abbrev ends_lines : LinkEnds → List Field → List Field
ends_lines x fs =
    mandatory string x.name ∷
    mandatory uint x.handle ∷
    mandatory role_kind x.role ∷
    defaulted ubyte 2 x.snd_settle_mode ∷
    defaulted ubyte 0 x.rcv_settle_mode ∷
    optional source_terminus x.source ∷
    optional target_terminus x.target ∷ fs

abbrev holdings_lines : LinkHoldings → List Field → List Field
holdings_lines x fs =
    optional deliveries x.unsettled ∷
    defaulted boolean false x.incomplete_unsettled ∷
    optional uint x.initial_delivery_count ∷
    optional ulong x.max_message_size ∷ fs

abbrev extras_lines : LinkExtras → List Field
extras_lines x =
    multiple x.offered_capabilities ∷
    multiple x.desired_capabilities ∷
    optional map x.properties ∷ []

ends_sound : (at : At) (x : LinkEnds) (behind : At) (fs : List Field) → at.depth ≡ 30 → ends_at at ≡ Ok (x, behind) → Part 30 at behind fs (ends_lines x fs)
unfolding ends_at
ends_sound at x behind fs deep e =
    field (mandatory_string 30) at _ (x, behind) deep e (λ x1 at1 d1 m1 e1.
    field (mandatory_uint 30) at1 _ (x, behind) d1 e1 (λ x2 at2 d2 m2 e2.
    field (mandatory_role 30) at2 _ (x, behind) d2 e2 (λ x3 at3 d3 m3 e3.
    field (optional_ubyte 30) at3 _ (x, behind) d3 e3 (λ x4 at4 d4 m4 e4.
    field (optional_ubyte 30) at4 _ (x, behind) d4 e4 (λ x5 at5 d5 m5 e5.
    field (optional_source 24) at5 _ (x, behind) d5 e5 (λ x6 at6 d6 m6 e6.
    field (optional_target 24) at6 _ (x, behind) d6 e6 (λ x7 at7 d7 m7 e7.
    subst (λ q. Part 30 at q.1 fs (ends_lines q.0 fs)) (found_is _ (x, behind) e7) (d7, λ end. (moved at _ _ at1 m1 (moved at1 _ _ at2 m2 (moved at2 _ _ at3 m3 (moved at3 _ _ at4 (defaulted_moves ubyte 2 x4 at3 at4 m4) (moved at4 _ _ at5 (defaulted_moves ubyte 0 x5 at4 at5 m5) (moved at5 _ _ at6 m6 (moved at6 _ _ at7 m7 end)))))))))))))))

ends_complete : (at : At) (x : LinkEnds) (fs : List Field) → at.depth ≡ 30 → Ready at (ends_lines x fs) → TakesFirst 30 ends_at x fs at
unfolding ends_at
ends_complete at x fs deep r =
    given (mandatory_string 30) at x.name _ deep r (λ at1 d1 e1 r1.
    given (mandatory_uint 30) at1 x.handle _ d1 r1 (λ at2 d2 e2 r2.
    given (mandatory_role 30) at2 x.role _ d2 r2 (λ at3 d3 e3 r3.
    given_or ubyte 2 (optional_ubyte 30) at3 x.snd_settle_mode _ d3 r3 (λ o4 at4 h4 d4 e4 r4.
    given_or ubyte 0 (optional_ubyte 30) at4 x.rcv_settle_mode _ d4 r4 (λ o5 at5 h5 d5 e5 r5.
    given (optional_source 24) at5 x.source _ d5 r5 (λ at6 d6 e6 r6.
    given (optional_target 24) at6 x.target _ d6 r6 (λ at7 d7 e7 r7.
    record { behind = at7; took = rw (e1, e2, e3, e4, e5, e6, e7, h4, h5) refl; deep = d7; ready = r7 })))))))

holdings_sound : (at : At) (x : LinkHoldings) (behind : At) (fs : List Field) → at.depth ≡ 30 → holdings_at at ≡ Ok (x, behind) → Part 30 at behind fs (holdings_lines x fs)
unfolding holdings_at
holdings_sound at x behind fs deep e =
    field (optional_unsettled 25) at _ (x, behind) deep e (λ x1 at1 d1 m1 e1.
    field (flag_agrees 30) at1 _ (x, behind) d1 e1 (λ x2 at2 d2 m2 e2.
    field (optional_uint 30) at2 _ (x, behind) d2 e2 (λ x3 at3 d3 m3 e3.
    field (optional_ulong 30) at3 _ (x, behind) d3 e3 (λ x4 at4 d4 m4 e4.
    subst (λ q. Part 30 at q.1 fs (holdings_lines q.0 fs)) (found_is _ (x, behind) e4) (d4, λ end. (moved at _ _ at1 m1 (moved at1 _ _ at2 m2 (moved at2 _ _ at3 m3 (moved at3 _ _ at4 m4 end)))))))))

holdings_complete : (at : At) (x : LinkHoldings) (fs : List Field) → at.depth ≡ 30 → Ready at (holdings_lines x fs) → TakesFirst 30 holdings_at x fs at
unfolding holdings_at
holdings_complete at x fs deep r =
    given (optional_unsettled 25) at x.unsettled _ deep r (λ at1 d1 e1 r1.
    given (flag_agrees 30) at1 x.incomplete_unsettled _ d1 r1 (λ at2 d2 e2 r2.
    given (optional_uint 30) at2 x.initial_delivery_count _ d2 r2 (λ at3 d3 e3 r3.
    given (optional_ulong 30) at3 x.max_message_size _ d3 r3 (λ at4 d4 e4 r4.
    record { behind = at4; took = rw (e1, e2, e3, e4) refl; deep = d4; ready = r4 }))))

extras_sound : (at : At) (x : LinkExtras) → at.depth ≡ 30 → extras_fields at ≡ Ok x → Read at (extras_lines x)
unfolding extras_fields
extras_sound at x deep e =
    field (multiple_agrees 30) at _ x deep e (λ x1 at1 d1 m1 e1.
    field (multiple_agrees 30) at1 _ x d1 e1 (λ x2 at2 d2 m2 e2.
    field (optional_map 30) at2 _ x d2 e2 (λ x3 at3 d3 m3 e3.
    last at3 _ x e3 (λ end is.
    subst (λ y. Read at (extras_lines y)) (found_is _ x is) (moved at _ _ at1 m1 (moved at1 _ _ at2 m2 (moved at2 _ _ at3 m3 end)))))))

extras_complete : (at : At) (x : LinkExtras) → at.depth ≡ 30 → Ready at (extras_lines x) → extras_fields at ≡ Ok x
unfolding extras_fields
extras_complete at x deep r =
    given (multiple_agrees 30) at x.offered_capabilities _ deep r (λ at1 d1 e1 r1.
    given (multiple_agrees 30) at1 x.desired_capabilities _ d1 r1 (λ at2 d2 e2 r2.
    given (optional_map 30) at2 x.properties _ d2 r2 (λ at3 d3 e3 r3.
    rw (e1, e2, e3, ended_ready at3 r3) refl)))

pub attach_sound : (at : At) (x : Attach) → at.depth ≡ 30 → attach_fields at ≡ Ok x → Read at (attach_table x)
unfolding attach_fields
attach_sound at x deep e =
    taken (ends_at at) _ x e (λ ends first e1.
    taken (holdings_at ends.1) _ x e1 (λ holdings second e2.
    taken (extras_fields holdings.1) _ x e2 (λ extras third e3.
    let p = ends_sound at ends.0 ends.1 (holdings_lines holdings.0 (extras_lines extras)) deep first in
    let q = holdings_sound ends.1 holdings.0 holdings.1 (extras_lines extras) p.0 second in
    subst (λ y. Read at (attach_table y)) (found_is _ x e3) (p.1 (q.1 (extras_sound holdings.1 extras q.0 third))))))

attach_taken : (at at1 at2 : At) (x : Attach) (ends : LinkEnds) (holdings : LinkHoldings) (extras : LinkExtras)
    → ends ≡ record { name = x.name; handle = x.handle; role = x.role; snd_settle_mode = x.snd_settle_mode; rcv_settle_mode = x.rcv_settle_mode; source = x.source; target = x.target }
    → holdings ≡ record { unsettled = x.unsettled; incomplete_unsettled = x.incomplete_unsettled; initial_delivery_count = x.initial_delivery_count; max_message_size = x.max_message_size }
    → extras ≡ record { offered_capabilities = x.offered_capabilities; desired_capabilities = x.desired_capabilities; properties = x.properties }
    → ends_at at ≡ Ok (ends, at1) → holdings_at at1 ≡ Ok (holdings, at2) → extras_fields at2 ≡ Ok extras → attach_fields at ≡ Ok x
unfolding attach_fields
attach_taken at at1 at2 x ends holdings extras is1 is2 is3 e1 e2 e3 = rw (e1, e2, e3, is1, is2, is3) refl

pub attach_complete : (at : At) (x : Attach) → at.depth ≡ 30 → Ready at (attach_table x) → attach_fields at ≡ Ok x
attach_complete at x deep r =
    let ends : LinkEnds = record { name = x.name; handle = x.handle; role = x.role; snd_settle_mode = x.snd_settle_mode; rcv_settle_mode = x.rcv_settle_mode; source = x.source; target = x.target } in
    let holdings : LinkHoldings = record { unsettled = x.unsettled; incomplete_unsettled = x.incomplete_unsettled; initial_delivery_count = x.initial_delivery_count; max_message_size = x.max_message_size } in
    let extras : LinkExtras = record { offered_capabilities = x.offered_capabilities; desired_capabilities = x.desired_capabilities; properties = x.properties } in
    let t1 = ends_complete at ends (holdings_lines holdings (extras_lines extras)) deep r in
    let t2 = holdings_complete t1.behind holdings (extras_lines extras) t1.deep t1.ready in
    attach_taken at t1.behind t2.behind x ends holdings extras refl refl refl t1.took t2.took (extras_complete t2.behind extras t2.deep t2.ready)

pub flow_sound : (at : At) (x : Flow) → at.depth ≡ 30 → flow_fields at ≡ Ok x → Read at (flow_table x)
unfolding flow_fields
flow_sound at x deep e =
    field (optional_uint 30) at _ x deep e (λ x1 at1 d1 m1 e1.
    field (mandatory_uint 30) at1 _ x d1 e1 (λ x2 at2 d2 m2 e2.
    field (mandatory_uint 30) at2 _ x d2 e2 (λ x3 at3 d3 m3 e3.
    field (mandatory_uint 30) at3 _ x d3 e3 (λ x4 at4 d4 m4 e4.
    field (optional_uint 30) at4 _ x d4 e4 (λ x5 at5 d5 m5 e5.
    field (optional_uint 30) at5 _ x d5 e5 (λ x6 at6 d6 m6 e6.
    field (optional_uint 30) at6 _ x d6 e6 (λ x7 at7 d7 m7 e7.
    field (optional_uint 30) at7 _ x d7 e7 (λ x8 at8 d8 m8 e8.
    field (flag_agrees 30) at8 _ x d8 e8 (λ x9 at9 d9 m9 e9.
    field (flag_agrees 30) at9 _ x d9 e9 (λ x10 at10 d10 m10 e10.
    field (optional_map 30) at10 _ x d10 e10 (λ x11 at11 d11 m11 e11.
    last at11 _ x e11 (λ end is.
    subst (λ y. Read at (flow_table y)) (found_is _ x is) (moved at _ _ at1 m1 (moved at1 _ _ at2 m2 (moved at2 _ _ at3 m3 (moved at3 _ _ at4 m4 (moved at4 _ _ at5 m5 (moved at5 _ _ at6 m6 (moved at6 _ _ at7 m7 (moved at7 _ _ at8 m8 (moved at8 _ _ at9 m9 (moved at9 _ _ at10 m10 (moved at10 _ _ at11 m11 end)))))))))))))))))))))))

pub flow_complete : (at : At) (x : Flow) → at.depth ≡ 30 → Ready at (flow_table x) → flow_fields at ≡ Ok x
unfolding flow_fields
flow_complete at x deep r =
    given (optional_uint 30) at x.next_incoming_id _ deep r (λ at1 d1 e1 r1.
    given (mandatory_uint 30) at1 x.incoming_window _ d1 r1 (λ at2 d2 e2 r2.
    given (mandatory_uint 30) at2 x.next_outgoing_id _ d2 r2 (λ at3 d3 e3 r3.
    given (mandatory_uint 30) at3 x.outgoing_window _ d3 r3 (λ at4 d4 e4 r4.
    given (optional_uint 30) at4 x.handle _ d4 r4 (λ at5 d5 e5 r5.
    given (optional_uint 30) at5 x.delivery_count _ d5 r5 (λ at6 d6 e6 r6.
    given (optional_uint 30) at6 x.link_credit _ d6 r6 (λ at7 d7 e7 r7.
    given (optional_uint 30) at7 x.available _ d7 r7 (λ at8 d8 e8 r8.
    given (flag_agrees 30) at8 x.drain _ d8 r8 (λ at9 d9 e9 r9.
    given (flag_agrees 30) at9 x.echo _ d9 r9 (λ at10 d10 e10 r10.
    given (optional_map 30) at10 x.properties _ d10 r10 (λ at11 d11 e11 r11.
    rw (e1, e2, e3, e4, e5, e6, e7, e8, e9, e10, e11, ended_ready at11 r11) refl)))))))))))

pub transfer_sound : (at : At) (x : Transfer) → at.depth ≡ 30 → transfer_fields at ≡ Ok x → Read at (transfer_table x)
unfolding transfer_fields
transfer_sound at x deep e =
    field (mandatory_uint 30) at _ x deep e (λ x1 at1 d1 m1 e1.
    field (optional_uint 30) at1 _ x d1 e1 (λ x2 at2 d2 m2 e2.
    field (optional_tag 30) at2 _ x d2 e2 (λ x3 at3 d3 m3 e3.
    field (optional_uint 30) at3 _ x d3 e3 (λ x4 at4 d4 m4 e4.
    field (flag_agrees 30) at4 _ x d4 e4 (λ x5 at5 d5 m5 e5.
    field (flag_agrees 30) at5 _ x d5 e5 (λ x6 at6 d6 m6 e6.
    field (optional_ubyte 30) at6 _ x d6 e6 (λ x7 at7 d7 m7 e7.
    field (optional_state 26) at7 _ x d7 e7 (λ x8 at8 d8 m8 e8.
    field (flag_agrees 30) at8 _ x d8 e8 (λ x9 at9 d9 m9 e9.
    field (flag_agrees 30) at9 _ x d9 e9 (λ x10 at10 d10 m10 e10.
    field (flag_agrees 30) at10 _ x d10 e10 (λ x11 at11 d11 m11 e11.
    last at11 _ x e11 (λ end is.
    subst (λ y. Read at (transfer_table y)) (found_is _ x is) (moved at _ _ at1 m1 (moved at1 _ _ at2 m2 (moved at2 _ _ at3 m3 (moved at3 _ _ at4 m4 (moved at4 _ _ at5 m5 (moved at5 _ _ at6 m6 (moved at6 _ _ at7 m7 (moved at7 _ _ at8 m8 (moved at8 _ _ at9 m9 (moved at9 _ _ at10 m10 (moved at10 _ _ at11 m11 end)))))))))))))))))))))))

pub transfer_complete : (at : At) (x : Transfer) → at.depth ≡ 30 → Ready at (transfer_table x) → transfer_fields at ≡ Ok x
unfolding transfer_fields
transfer_complete at x deep r =
    given (mandatory_uint 30) at x.handle _ deep r (λ at1 d1 e1 r1.
    given (optional_uint 30) at1 x.delivery_id _ d1 r1 (λ at2 d2 e2 r2.
    given (optional_tag 30) at2 x.delivery_tag _ d2 r2 (λ at3 d3 e3 r3.
    given (optional_uint 30) at3 x.message_format _ d3 r3 (λ at4 d4 e4 r4.
    given (flag_agrees 30) at4 x.settled _ d4 r4 (λ at5 d5 e5 r5.
    given (flag_agrees 30) at5 x.more _ d5 r5 (λ at6 d6 e6 r6.
    given (optional_ubyte 30) at6 x.rcv_settle_mode _ d6 r6 (λ at7 d7 e7 r7.
    given (optional_state 26) at7 x.state _ d7 r7 (λ at8 d8 e8 r8.
    given (flag_agrees 30) at8 x.resume _ d8 r8 (λ at9 d9 e9 r9.
    given (flag_agrees 30) at9 x.aborted _ d9 r9 (λ at10 d10 e10 r10.
    given (flag_agrees 30) at10 x.batchable _ d10 r10 (λ at11 d11 e11 r11.
    rw (e1, e2, e3, e4, e5, e6, e7, e8, e9, e10, e11, ended_ready at11 r11) refl)))))))))))

pub disposition_sound : (at : At) (x : Disposition) → at.depth ≡ 30 → disposition_fields at ≡ Ok x → Read at (disposition_table x)
unfolding disposition_fields
disposition_sound at x deep e =
    field (mandatory_role 30) at _ x deep e (λ x1 at1 d1 m1 e1.
    field (mandatory_uint 30) at1 _ x d1 e1 (λ x2 at2 d2 m2 e2.
    field (optional_uint 30) at2 _ x d2 e2 (λ x3 at3 d3 m3 e3.
    field (flag_agrees 30) at3 _ x d3 e3 (λ x4 at4 d4 m4 e4.
    field (optional_state 26) at4 _ x d4 e4 (λ x5 at5 d5 m5 e5.
    field (flag_agrees 30) at5 _ x d5 e5 (λ x6 at6 d6 m6 e6.
    last at6 _ x e6 (λ end is.
    subst (λ y. Read at (disposition_table y)) (found_is _ x is) (moved at _ _ at1 m1 (moved at1 _ _ at2 m2 (moved at2 _ _ at3 m3 (moved at3 _ _ at4 m4 (moved at4 _ _ at5 m5 (moved at5 _ _ at6 m6 end)))))))))))))

pub disposition_complete : (at : At) (x : Disposition) → at.depth ≡ 30 → Ready at (disposition_table x) → disposition_fields at ≡ Ok x
unfolding disposition_fields
disposition_complete at x deep r =
    given (mandatory_role 30) at x.role _ deep r (λ at1 d1 e1 r1.
    given (mandatory_uint 30) at1 x.first _ d1 r1 (λ at2 d2 e2 r2.
    given (optional_uint 30) at2 x.last _ d2 r2 (λ at3 d3 e3 r3.
    given (flag_agrees 30) at3 x.settled _ d3 r3 (λ at4 d4 e4 r4.
    given (optional_state 26) at4 x.state _ d4 r4 (λ at5 d5 e5 r5.
    given (flag_agrees 30) at5 x.batchable _ d5 r5 (λ at6 d6 e6 r6.
    rw (e1, e2, e3, e4, e5, e6, ended_ready at6 r6) refl))))))

pub detach_sound : (at : At) (x : Detach) → at.depth ≡ 30 → detach_fields at ≡ Ok x → Read at (detach_table x)
unfolding detach_fields
detach_sound at x deep e =
    field (mandatory_uint 30) at _ x deep e (λ x1 at1 d1 m1 e1.
    field (flag_agrees 30) at1 _ x d1 e1 (λ x2 at2 d2 m2 e2.
    field (optional_error 28) at2 _ x d2 e2 (λ x3 at3 d3 m3 e3.
    last at3 _ x e3 (λ end is.
    subst (λ y. Read at (detach_table y)) (found_is _ x is) (moved at _ _ at1 m1 (moved at1 _ _ at2 m2 (moved at2 _ _ at3 m3 end)))))))

pub detach_complete : (at : At) (x : Detach) → at.depth ≡ 30 → Ready at (detach_table x) → detach_fields at ≡ Ok x
unfolding detach_fields
detach_complete at x deep r =
    given (mandatory_uint 30) at x.handle _ deep r (λ at1 d1 e1 r1.
    given (flag_agrees 30) at1 x.closed _ d1 r1 (λ at2 d2 e2 r2.
    given (optional_error 28) at2 x.error _ d2 r2 (λ at3 d3 e3 r3.
    rw (e1, e2, e3, ended_ready at3 r3) refl)))

pub end_sound : (at : At) (x : End) → at.depth ≡ 30 → end_fields at ≡ Ok x → Read at (end_table x)
unfolding end_fields
end_sound at x deep e =
    field (optional_error 28) at _ x deep e (λ x1 at1 d1 m1 e1.
    last at1 _ x e1 (λ end is.
    subst (λ y. Read at (end_table y)) (found_is _ x is) (moved at _ _ at1 m1 end)))

pub end_complete : (at : At) (x : End) → at.depth ≡ 30 → Ready at (end_table x) → end_fields at ≡ Ok x
unfolding end_fields
end_complete at x deep r =
    given (optional_error 28) at x.error _ deep r (λ at1 d1 e1 r1.
    rw (e1, ended_ready at1 r1) refl)

pub close_sound : (at : At) (x : Close) → at.depth ≡ 30 → close_fields at ≡ Ok x → Read at (close_table x)
unfolding close_fields
close_sound at x deep e =
    field (optional_error 28) at _ x deep e (λ x1 at1 d1 m1 e1.
    last at1 _ x e1 (λ end is.
    subst (λ y. Read at (close_table y)) (found_is _ x is) (moved at _ _ at1 m1 end)))

pub close_complete : (at : At) (x : Close) → at.depth ≡ 30 → Ready at (close_table x) → close_fields at ≡ Ok x
unfolding close_fields
close_complete at x deep r =
    given (optional_error 28) at x.error _ deep r (λ at1 d1 e1 r1.
    rw (e1, ended_ready at1 r1) refl)

pub sasl_mechanisms_sound : (at : At) (x : SaslMechanisms) → at.depth ≡ 30 → sasl_mechanisms_fields at ≡ Ok x → Read at (sasl_mechanisms_table x)
unfolding sasl_mechanisms_fields
sasl_mechanisms_sound at x deep e =
    field (some_agree 30) at _ x deep e (λ x1 at1 d1 m1 e1.
    last at1 _ x e1 (λ end is.
    subst (λ y. Read at (sasl_mechanisms_table y)) (found_is _ x is) (moved at _ _ at1 m1 end)))

pub sasl_mechanisms_complete : (at : At) (x : SaslMechanisms) → at.depth ≡ 30 → Ready at (sasl_mechanisms_table x) → sasl_mechanisms_fields at ≡ Ok x
unfolding sasl_mechanisms_fields
sasl_mechanisms_complete at x deep r =
    given (some_agree 30) at x.mechanisms _ deep r (λ at1 d1 e1 r1.
    rw (e1, ended_ready at1 r1) refl)

pub sasl_init_sound : (at : At) (x : SaslInit) → at.depth ≡ 30 → sasl_init_fields at ≡ Ok x → Read at (sasl_init_table x)
unfolding sasl_init_fields
sasl_init_sound at x deep e =
    field (mandatory_symbol 30) at _ x deep e (λ x1 at1 d1 m1 e1.
    field (optional_binary 30) at1 _ x d1 e1 (λ x2 at2 d2 m2 e2.
    field (optional_string 30) at2 _ x d2 e2 (λ x3 at3 d3 m3 e3.
    last at3 _ x e3 (λ end is.
    subst (λ y. Read at (sasl_init_table y)) (found_is _ x is) (moved at _ _ at1 m1 (moved at1 _ _ at2 m2 (moved at2 _ _ at3 m3 end)))))))

pub sasl_init_complete : (at : At) (x : SaslInit) → at.depth ≡ 30 → Ready at (sasl_init_table x) → sasl_init_fields at ≡ Ok x
unfolding sasl_init_fields
sasl_init_complete at x deep r =
    given (mandatory_symbol 30) at x.mechanism _ deep r (λ at1 d1 e1 r1.
    given (optional_binary 30) at1 x.initial_response _ d1 r1 (λ at2 d2 e2 r2.
    given (optional_string 30) at2 x.hostname _ d2 r2 (λ at3 d3 e3 r3.
    rw (e1, e2, e3, ended_ready at3 r3) refl)))

pub sasl_challenge_sound : (at : At) (x : SaslChallenge) → at.depth ≡ 30 → sasl_challenge_fields at ≡ Ok x → Read at (sasl_challenge_table x)
unfolding sasl_challenge_fields
sasl_challenge_sound at x deep e =
    field (mandatory_binary 30) at _ x deep e (λ x1 at1 d1 m1 e1.
    last at1 _ x e1 (λ end is.
    subst (λ y. Read at (sasl_challenge_table y)) (found_is _ x is) (moved at _ _ at1 m1 end)))

pub sasl_challenge_complete : (at : At) (x : SaslChallenge) → at.depth ≡ 30 → Ready at (sasl_challenge_table x) → sasl_challenge_fields at ≡ Ok x
unfolding sasl_challenge_fields
sasl_challenge_complete at x deep r =
    given (mandatory_binary 30) at x.challenge _ deep r (λ at1 d1 e1 r1.
    rw (e1, ended_ready at1 r1) refl)

pub sasl_response_sound : (at : At) (x : SaslResponse) → at.depth ≡ 30 → sasl_response_fields at ≡ Ok x → Read at (sasl_response_table x)
unfolding sasl_response_fields
sasl_response_sound at x deep e =
    field (mandatory_binary 30) at _ x deep e (λ x1 at1 d1 m1 e1.
    last at1 _ x e1 (λ end is.
    subst (λ y. Read at (sasl_response_table y)) (found_is _ x is) (moved at _ _ at1 m1 end)))

pub sasl_response_complete : (at : At) (x : SaslResponse) → at.depth ≡ 30 → Ready at (sasl_response_table x) → sasl_response_fields at ≡ Ok x
unfolding sasl_response_fields
sasl_response_complete at x deep r =
    given (mandatory_binary 30) at x.response _ deep r (λ at1 d1 e1 r1.
    rw (e1, ended_ready at1 r1) refl)

pub sasl_outcome_sound : (at : At) (x : SaslOutcome) → at.depth ≡ 30 → sasl_outcome_fields at ≡ Ok x → Read at (sasl_outcome_table x)
unfolding sasl_outcome_fields
sasl_outcome_sound at x deep e =
    field (mandatory_ubyte 30) at _ x deep e (λ x1 at1 d1 m1 e1.
    field (optional_binary 30) at1 _ x d1 e1 (λ x2 at2 d2 m2 e2.
    last at2 _ x e2 (λ end is.
    subst (λ y. Read at (sasl_outcome_table y)) (found_is _ x is) (moved at _ _ at1 m1 (moved at1 _ _ at2 m2 end)))))

pub sasl_outcome_complete : (at : At) (x : SaslOutcome) → at.depth ≡ 30 → Ready at (sasl_outcome_table x) → sasl_outcome_fields at ≡ Ok x
unfolding sasl_outcome_fields
sasl_outcome_complete at x deep r =
    given (mandatory_ubyte 30) at x.code _ deep r (λ at1 d1 e1 r1.
    given (optional_binary 30) at1 x.additional_data _ d1 r1 (λ at2 d2 e2 r2.
    rw (e1, e2, ended_ready at2 r2) refl))
