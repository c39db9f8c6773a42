-- Sources and targets against their tables.
use Rattle.std.proofs.Common.{◌≡◌, ℕ, suc, false, List, [], ◌∷◌, ◌++◌, Option, Some, None, Ok, refl, sym, ap, subst, ◌∙◌}
use Rattle.amqp_model.specs.Data as d
use Rattle.amqp_model.specs.Data.{Data}
use Rattle.amqp_types.specs.Spells.{Spells}
use Rattle.amqp_model.specs.declared.descriptor.Descriptor.{Descriptor}
use Rattle.amqp_model.specs.declared.descriptor.Descriptor.TheVariants as is
use Rattle.amqp_perf.specs.declared.opening.Opening.{Opening}
use Rattle.amqp_perf.specs.declared.opening.Opening.TheVariants as opening
use Rattle.amqp_model.specs.declared.terminus.Source.{Source}
use Rattle.amqp_model.specs.declared.terminus.Target.{Target}
use Rattle.amqp_perf.specs.declared.read_termini.NodeFields.{NodeFields}
use Rattle.amqp_perf.specs.declared.read_termini.SourceChoices.{SourceChoices}
use Rattle.amqp_model.specs.declared.terminus.SourceTerminus.{SourceTerminus}
use Rattle.amqp_model.specs.declared.terminus.SourceTerminus.TheVariants as source
use Rattle.amqp_model.specs.declared.terminus.TargetTerminus.{TargetTerminus}
use Rattle.amqp_model.specs.declared.terminus.TargetTerminus.TheVariants as target
use Rattle.amqp_perf.specs.Faults.{◌>>=◌}
use Rattle.amqp_perf.specs.Fields.{At, name_of, opening_at, carried}
use Rattle.amqp_perf.specs.Termini.{node_at, choices_fields, source_fields, target_fields, source_by, source_in, source_at, target_by, target_in, target_at}
use Rattle.amqp_model.specs.PerfSpelling.{session_end}
use Rattle.amqp_perf.specs.Fitting.{names_source, names_target}
use Rattle.amqp_perf.specs.Tables.{Field, IsCarried, NoneNames, optional, defaulted, multiple, boolean, uint, symbol, map, node_address}
use Rattle.amqp_perf.specs.ListTables.{delivery_state, source_table, target_table, source_terminus, target_terminus}
use Rattle.amqp_perf.proofs.WrittenTermini.{source_other, target_other}
use Rattle.amqp_perf.proofs.TableNames.{name_sound}
use Rattle.amqp_perf.proofs.TablePlaces.{found, bind_ok, found_is, Ready, Read, moved, ended_ready, TakesFirst, Agrees, Part, taken, field, last, given}
use Rattle.amqp_perf.proofs.TableFields.{flag_agrees, optional_uint, optional_symbol, optional_map, optional_address, multiple_agrees, defaulted_moves, given_or}
use Rattle.amqp_perf.proofs.TableLists.{described_parts, opening_ready}
use Rattle.amqp_perf.proofs.TableNested.{Found, ReadsKind, in_place_agrees, null_opens, null_found, never_refused, list_found, list_reads, carried_parts, apart}
use Rattle.amqp_perf.proofs.TableStates.{Four, optional_state, carried_reads}

-- the fields that both begin with, and the further ones of a source
abbrev node_lines : NodeFields → List Field → List Field
node_lines x fs =
    optional node_address x.address ∷
    defaulted uint 0 x.durable ∷
    defaulted symbol session_end x.expiry_policy ∷
    defaulted uint 0 x.timeout ∷
    defaulted boolean false x.dynamic ∷
    optional map x.dynamic_node_properties ∷ fs

abbrev choices_lines : SourceChoices → List Field
choices_lines x =
    optional symbol x.distribution_mode ∷
    optional map x.filter ∷
    optional delivery_state x.default_outcome ∷
    multiple x.outcomes ∷
    multiple x.capabilities ∷ []

node_sound : (n : ℕ) (at : At) (x : NodeFields) (behind : At) (fs : List Field) → at.depth ≡ Four n → node_at at ≡ Ok (x, behind) → Part (Four n) at behind fs (node_lines x fs)
unfolding node_at
node_sound n at x behind fs deep e =
    field (optional_address (Four n)) at _ (x, behind) deep e (λ x1 at1 d1 m1 e1.
    field (optional_uint (Four n)) at1 _ (x, behind) d1 e1 (λ x2 at2 d2 m2 e2.
    field (optional_symbol (Four n)) at2 _ (x, behind) d2 e2 (λ x3 at3 d3 m3 e3.
    field (optional_uint (Four n)) at3 _ (x, behind) d3 e3 (λ x4 at4 d4 m4 e4.
    field (flag_agrees (Four n)) at4 _ (x, behind) d4 e4 (λ x5 at5 d5 m5 e5.
    field (optional_map (Four n)) at5 _ (x, behind) d5 e5 (λ x6 at6 d6 m6 e6.
    subst (λ q. Part (Four n) at q.1 fs (node_lines q.0 fs)) (found_is _ (x, behind) e6) (d6, λ end. (moved at _ _ at1 m1 (moved at1 _ _ at2 (defaulted_moves uint 0 x2 at1 at2 m2) (moved at2 _ _ at3 (defaulted_moves symbol session_end x3 at2 at3 m3) (moved at3 _ _ at4 (defaulted_moves uint 0 x4 at3 at4 m4) (moved at4 _ _ at5 m5 (moved at5 _ _ at6 m6 end)))))))))))))

node_complete : (n : ℕ) (at : At) (x : NodeFields) (fs : List Field) → at.depth ≡ Four n → Ready at (node_lines x fs) → TakesFirst (Four n) node_at x fs at
unfolding node_at
node_complete n at x fs deep r =
    given (optional_address (Four n)) at x.address _ deep r (λ at1 d1 e1 r1.
    given_or uint 0 (optional_uint (Four n)) at1 x.durable _ d1 r1 (λ o2 at2 h2 d2 e2 r2.
    given_or symbol session_end (optional_symbol (Four n)) at2 x.expiry_policy _ d2 r2 (λ o3 at3 h3 d3 e3 r3.
    given_or uint 0 (optional_uint (Four n)) at3 x.timeout _ d3 r3 (λ o4 at4 h4 d4 e4 r4.
    given (flag_agrees (Four n)) at4 x.dynamic _ d4 r4 (λ at5 d5 e5 r5.
    given (optional_map (Four n)) at5 x.dynamic_node_properties _ d5 r5 (λ at6 d6 e6 r6.
    record { behind = at6; took = rw (e1, e2, e3, e4, e5, e6, h2, h3, h4) refl; deep = d6; ready = r6 }))))))

choices_sound : (n : ℕ) (at : At) (x : SourceChoices) → at.depth ≡ Four n → choices_fields at ≡ Ok x → Read at (choices_lines x)
unfolding choices_fields
choices_sound n at x deep e =
    field (optional_symbol (Four n)) at _ x deep e (λ x1 at1 d1 m1 e1.
    field (optional_map (Four n)) at1 _ x d1 e1 (λ x2 at2 d2 m2 e2.
    field (optional_state n) at2 _ x d2 e2 (λ x3 at3 d3 m3 e3.
    field (multiple_agrees (Four n)) at3 _ x d3 e3 (λ x4 at4 d4 m4 e4.
    field (multiple_agrees (Four n)) at4 _ x d4 e4 (λ x5 at5 d5 m5 e5.
    last at5 _ x e5 (λ end is.
    subst (λ y. Read at (choices_lines y)) (found_is _ x is) (moved at _ _ at1 m1 (moved at1 _ _ at2 m2 (moved at2 _ _ at3 m3 (moved at3 _ _ at4 m4 (moved at4 _ _ at5 m5 end)))))))))))

choices_complete : (n : ℕ) (at : At) (x : SourceChoices) → at.depth ≡ Four n → Ready at (choices_lines x) → choices_fields at ≡ Ok x
unfolding choices_fields
choices_complete n at x deep r =
    given (optional_symbol (Four n)) at x.distribution_mode _ deep r (λ at1 d1 e1 r1.
    given (optional_map (Four n)) at1 x.filter _ d1 r1 (λ at2 d2 e2 r2.
    given (optional_state n) at2 x.default_outcome _ d2 r2 (λ at3 d3 e3 r3.
    given (multiple_agrees (Four n)) at3 x.outcomes _ d3 r3 (λ at4 d4 e4 r4.
    given (multiple_agrees (Four n)) at4 x.capabilities _ d4 r4 (λ at5 d5 e5 r5.
    rw (e1, e2, e3, e4, e5, ended_ready at5 r5) refl)))))

source_sound : (n : ℕ) (at : At) (x : Source) → at.depth ≡ Four n → source_fields at ≡ Ok x → Read at (source_table x)
unfolding source_fields
source_sound n at x deep e =
    taken (node_at at) _ x e (λ node first e1.
    taken (choices_fields node.1) _ x e1 (λ choices second e2.
    let p = node_sound n at node.0 node.1 (choices_lines choices) deep first in
    subst (λ y. Read at (source_table y)) (found_is _ x e2) (p.1 (choices_sound n node.1 choices p.0 second))))

source_complete : (n : ℕ) (at : At) (x : Source) → at.depth ≡ Four n → Ready at (source_table x) → source_fields at ≡ Ok x
unfolding source_fields
source_complete n at x deep r =
    let node : NodeFields = record { address = x.address; durable = x.durable; expiry_policy = x.expiry_policy; timeout = x.timeout; dynamic = x.dynamic; dynamic_node_properties = x.dynamic_node_properties } in
    let choices : SourceChoices = record { distribution_mode = x.distribution_mode; filter = x.filter; default_outcome = x.default_outcome; outcomes = x.outcomes; capabilities = x.capabilities } in
    let t = node_complete n at node (choices_lines choices) deep r in
    rw (t.took, choices_complete n t.behind choices t.deep t.ready) refl

target_sound : (n : ℕ) (at : At) (x : Target) → at.depth ≡ Four n → target_fields at ≡ Ok x → Read at (target_table x)
unfolding target_fields
target_sound n at x deep e =
    taken (node_at at) _ x e (λ node first e1.
    let deeper : node.1.depth ≡ Four n = (node_sound n at node.0 node.1 [] deep first).0 in
    field (multiple_agrees (Four n)) node.1 _ x deeper e1 (λ x2 at2 d2 m2 e2.
    last at2 _ x e2 (λ end is.
    let p = node_sound n at node.0 node.1 (multiple x2 ∷ []) deep first in
    subst (λ y. Read at (target_table y)) (found_is _ x is) (p.1 (moved node.1 _ _ at2 m2 end)))))

target_complete : (n : ℕ) (at : At) (x : Target) → at.depth ≡ Four n → Ready at (target_table x) → target_fields at ≡ Ok x
unfolding target_fields
target_complete n at x deep r =
    let node : NodeFields = record { address = x.address; durable = x.durable; expiry_policy = x.expiry_policy; timeout = x.timeout; dynamic = x.dynamic; dynamic_node_properties = x.dynamic_node_properties } in
    let t1 = node_complete n at node (multiple x.capabilities ∷ []) deep r in
    let t2 = (multiple_agrees (Four n)).ready t1.behind x.capabilities _ t1.deep t1.ready in
    rw (t1.took, t2.took, ended_ready t2.behind t2.ready) refl

abbrev pub Six : ℕ → ℕ
Six n = suc (suc (Four n))

-- ---- a source, or another terminus

other_source_found : (n : ℕ) (bytes : List ℕ) (o : Option SourceTerminus) (rest : List ℕ) (name : Option Descriptor) (more : List ℕ) → names_source name ≡ false → opening_at (suc n) bytes ≡ Ok (opening.Described name, more)
    → (carried (suc n) bytes >>= λ x. found {A = Option SourceTerminus × List ℕ} (Some (source.Other x.0), x.1)) ≡ Ok (o, rest) → Found (suc n) bytes rest (optional source_terminus o)
other_source_found n bytes o rest name more other opens e =
    let x = bind_ok (carried (suc n) bytes) (λ x. found {A = Option SourceTerminus × List ℕ} (Some (source.Other x.0), x.1)) (o, rest) e in
    let p = found_is {A = Option SourceTerminus × List ℕ} (Some (source.Other x.0.0), x.0.1) (o, rest) x.2 in
    let c = carried_parts n bytes more x.0.1 x.0.0 name opens x.1 in
    record {
      text = c.text;
      value = d.described c.descriptor c.value;
      parts = c.parts ∙ ap (λ (t : List ℕ). c.text ++ t) (ap (λ q. q.1) p);
      spelled = c.spelled;
      holds = subst (λ z. optional source_terminus z (d.described c.descriptor c.value)) (ap (λ q. q.0) p) (record { descriptor = c.descriptor; value = c.value; is = refl; others = (apart names_source c.descriptor name is.Source other c.named refl, tt); carried = c.is });
    }

no_source : (v : Data) (name : Option Descriptor) → name_of (Some v) ≡ name → NoneNames (is.Source ∷ []) v → names_source name ≡ false
no_source v (Some is.Source) e h = absurd (h.0 (name_sound v is.Source e))
no_source v name e h = refl

other_source_reads : (n : ℕ) (text rest : List ℕ) (v : Data) (bytes : List ℕ) → Spells (suc n) text v → IsCarried (is.Source ∷ []) bytes v → source_in (suc n) (text ++ rest) ≡ Ok (Some (source.Other bytes), rest)
unfolding source_in
other_source_reads n text rest v bytes s h =
    let two = described_parts n text h.descriptor h.value (subst (λ w. Spells (suc n) text w) h.is s) in
    let name = name_of (Some h.descriptor) in
    ap (λ r. r >>= source_by (suc n) (text ++ rest)) (opening_ready n text rest h.descriptor h.value name two refl)
    ∙ source_other (suc n) (text ++ rest) (two.second ++ rest) name (no_source h.descriptor name refl h.others)
    ∙ ap (λ r. r >>= λ x. found {A = Option SourceTerminus × List ℕ} (Some (source.Other x.0), x.1)) (carried_reads (suc n) text rest v s)
    ∙ ap (λ (t : List ℕ). found {A = Option SourceTerminus × List ℕ} (Some (source.Other t), rest)) (sym h.carried)

source_reads : (n : ℕ) → ReadsKind (Six n) source_in source_terminus
unfolding source_in
source_reads n = record { sound = sound; complete = complete; never = never }
  where
    never : (x : SourceTerminus) → source_terminus x d.null → ⊥
    never (source.Source x) h = let e = h.is in absurd cc
    never (source.Other bytes) h = let e = h.is in absurd cc

    by_name : (bytes : List ℕ) (o : Option SourceTerminus) (rest : List ℕ) (name : Option Descriptor) (more : List ℕ) → opening_at (Six n) bytes ≡ Ok (opening.Described name, more) → source_by (Six n) bytes (opening.Described name, more) ≡ Ok (o, rest)
        → Found (Six n) bytes rest (optional source_terminus o)
    by_name bytes o rest (Some is.Source) more opens e =
        list_found (Four n) 11 is.Source source_fields source_table source.Source source_terminus (source_sound n) (λ x. refl) (λ x v h. h) bytes more rest o opens e
    by_name bytes o rest name more opens e = other_source_found (suc (Four n)) bytes o rest name more refl opens e

    by_opening : (bytes : List ℕ) (o : Option SourceTerminus) (rest : List ℕ) (p : Opening) (more : List ℕ) → opening_at (Six n) bytes ≡ Ok (p, more) → source_by (Six n) bytes (p, more) ≡ Ok (o, rest) → Found (Six n) bytes rest (optional source_terminus o)
    by_opening bytes o rest opening.Null more opens e = null_found (suc (Four n)) source_terminus bytes more rest o opens e
    by_opening bytes o rest opening.Other more opens e = absurd (never_refused (Six n) bytes (o, rest) e)
    by_opening bytes o rest (opening.Described name) more opens e = by_name bytes o rest name more opens e

    sound : (bytes : List ℕ) (o : Option SourceTerminus) (rest : List ℕ) → source_in (Six n) bytes ≡ Ok (o, rest) → Found (Six n) bytes rest (optional source_terminus o)
    sound bytes o rest e =
        let x = bind_ok (opening_at (Six n) bytes) (source_by (Six n) bytes) (o, rest) e in
        by_opening bytes o rest x.0.0 x.0.1 x.1 x.2

    complete : (text rest : List ℕ) (v : Data) (o : Option SourceTerminus) → Spells (Six n) text v → optional source_terminus o v → source_in (Six n) (text ++ rest) ≡ Ok (o, rest)
    complete text rest v None s h = ap (λ r. r >>= source_by (Six n) (text ++ rest)) (null_opens (suc (Four n)) text rest v s h)
    complete text rest v (Some (source.Source x)) s h =
        let r = list_reads (Four n) 11 is.Source source_fields source_table source.Source (source_complete n) (λ x. refl) text rest v x s h in
        ap (λ r. r >>= source_by (Six n) (text ++ rest)) r.opens ∙ r.reads
    complete text rest v (Some (source.Other bytes)) s h = other_source_reads (suc (Four n)) text rest v bytes s h

pub optional_source : (n : ℕ) → Agrees (Six n) source_at (optional source_terminus)
unfolding source_at
optional_source n = in_place_agrees (Six n) source_in source_terminus (source_reads n)

-- ---- a target, or another terminus

other_target_found : (n : ℕ) (bytes : List ℕ) (o : Option TargetTerminus) (rest : List ℕ) (name : Option Descriptor) (more : List ℕ) → names_target name ≡ false → opening_at (suc n) bytes ≡ Ok (opening.Described name, more)
    → (carried (suc n) bytes >>= λ x. found {A = Option TargetTerminus × List ℕ} (Some (target.Other x.0), x.1)) ≡ Ok (o, rest) → Found (suc n) bytes rest (optional target_terminus o)
other_target_found n bytes o rest name more other opens e =
    let x = bind_ok (carried (suc n) bytes) (λ x. found {A = Option TargetTerminus × List ℕ} (Some (target.Other x.0), x.1)) (o, rest) e in
    let p = found_is {A = Option TargetTerminus × List ℕ} (Some (target.Other x.0.0), x.0.1) (o, rest) x.2 in
    let c = carried_parts n bytes more x.0.1 x.0.0 name opens x.1 in
    record {
      text = c.text;
      value = d.described c.descriptor c.value;
      parts = c.parts ∙ ap (λ (t : List ℕ). c.text ++ t) (ap (λ q. q.1) p);
      spelled = c.spelled;
      holds = subst (λ z. optional target_terminus z (d.described c.descriptor c.value)) (ap (λ q. q.0) p) (record { descriptor = c.descriptor; value = c.value; is = refl; others = (apart names_target c.descriptor name is.Target other c.named refl, tt); carried = c.is });
    }

no_target : (v : Data) (name : Option Descriptor) → name_of (Some v) ≡ name → NoneNames (is.Target ∷ []) v → names_target name ≡ false
no_target v (Some is.Target) e h = absurd (h.0 (name_sound v is.Target e))
no_target v name e h = refl

other_target_reads : (n : ℕ) (text rest : List ℕ) (v : Data) (bytes : List ℕ) → Spells (suc n) text v → IsCarried (is.Target ∷ []) bytes v → target_in (suc n) (text ++ rest) ≡ Ok (Some (target.Other bytes), rest)
unfolding target_in
other_target_reads n text rest v bytes s h =
    let two = described_parts n text h.descriptor h.value (subst (λ w. Spells (suc n) text w) h.is s) in
    let name = name_of (Some h.descriptor) in
    ap (λ r. r >>= target_by (suc n) (text ++ rest)) (opening_ready n text rest h.descriptor h.value name two refl)
    ∙ target_other (suc n) (text ++ rest) (two.second ++ rest) name (no_target h.descriptor name refl h.others)
    ∙ ap (λ r. r >>= λ x. found {A = Option TargetTerminus × List ℕ} (Some (target.Other x.0), x.1)) (carried_reads (suc n) text rest v s)
    ∙ ap (λ (t : List ℕ). found {A = Option TargetTerminus × List ℕ} (Some (target.Other t), rest)) (sym h.carried)

target_reads : (n : ℕ) → ReadsKind (Six n) target_in target_terminus
unfolding target_in
target_reads n = record { sound = sound; complete = complete; never = never }
  where
    never : (x : TargetTerminus) → target_terminus x d.null → ⊥
    never (target.Target x) h = let e = h.is in absurd cc
    never (target.Other bytes) h = let e = h.is in absurd cc

    by_name : (bytes : List ℕ) (o : Option TargetTerminus) (rest : List ℕ) (name : Option Descriptor) (more : List ℕ) → opening_at (Six n) bytes ≡ Ok (opening.Described name, more) → target_by (Six n) bytes (opening.Described name, more) ≡ Ok (o, rest)
        → Found (Six n) bytes rest (optional target_terminus o)
    by_name bytes o rest (Some is.Target) more opens e =
        list_found (Four n) 7 is.Target target_fields target_table target.Target target_terminus (target_sound n) (λ x. refl) (λ x v h. h) bytes more rest o opens e
    by_name bytes o rest name more opens e = other_target_found (suc (Four n)) bytes o rest name more refl opens e

    by_opening : (bytes : List ℕ) (o : Option TargetTerminus) (rest : List ℕ) (p : Opening) (more : List ℕ) → opening_at (Six n) bytes ≡ Ok (p, more) → target_by (Six n) bytes (p, more) ≡ Ok (o, rest) → Found (Six n) bytes rest (optional target_terminus o)
    by_opening bytes o rest opening.Null more opens e = null_found (suc (Four n)) target_terminus bytes more rest o opens e
    by_opening bytes o rest opening.Other more opens e = absurd (never_refused (Six n) bytes (o, rest) e)
    by_opening bytes o rest (opening.Described name) more opens e = by_name bytes o rest name more opens e

    sound : (bytes : List ℕ) (o : Option TargetTerminus) (rest : List ℕ) → target_in (Six n) bytes ≡ Ok (o, rest) → Found (Six n) bytes rest (optional target_terminus o)
    sound bytes o rest e =
        let x = bind_ok (opening_at (Six n) bytes) (target_by (Six n) bytes) (o, rest) e in
        by_opening bytes o rest x.0.0 x.0.1 x.1 x.2

    complete : (text rest : List ℕ) (v : Data) (o : Option TargetTerminus) → Spells (Six n) text v → optional target_terminus o v → target_in (Six n) (text ++ rest) ≡ Ok (o, rest)
    complete text rest v None s h = ap (λ r. r >>= target_by (Six n) (text ++ rest)) (null_opens (suc (Four n)) text rest v s h)
    complete text rest v (Some (target.Target x)) s h =
        let r = list_reads (Four n) 7 is.Target target_fields target_table target.Target (target_complete n) (λ x. refl) text rest v x s h in
        ap (λ r. r >>= target_by (Six n) (text ++ rest)) r.opens ∙ r.reads
    complete text rest v (Some (target.Other bytes)) s h = other_target_reads (suc (Four n)) text rest v bytes s h

pub optional_target : (n : ℕ) → Agrees (Six n) target_at (optional target_terminus)
unfolding target_at
optional_target n = in_place_agrees (Six n) target_in target_terminus (target_reads n)
