-- Errors and delivery states against their tables.
use Rattle.std.proofs.Common.{◌≡◌, ℕ, suc, true, false, List, [], ◌++◌, Option, Some, None, Ok, refl, sym, ap, subst, ◌∙◌}
use Rattle.amqp_model.specs.Data as d
use Rattle.amqp_model.specs.Data.{Data}
use Rattle.amqp_model.specs.ValueSpelling.{spelling}
use Rattle.amqp_types.specs.Spells.{Spells}
use Rattle.amqp_types.proofs.Complete.{value_at-Spells}
use Rattle.amqp_model.specs.declared.descriptor.Descriptor.{Descriptor}
use Rattle.amqp_model.specs.declared.descriptor.Descriptor.TheVariants as is
use Rattle.amqp_perf.specs.declared.opening.Opening.{Opening}
use Rattle.amqp_perf.specs.declared.opening.Opening.TheVariants as opening
use Rattle.amqp_model.specs.declared.state.Fault.{Fault}
use Rattle.amqp_model.specs.declared.state.Received.{Received}
use Rattle.amqp_model.specs.declared.state.Rejected.{Rejected}
use Rattle.amqp_model.specs.declared.state.Modified.{Modified}
use Rattle.amqp_model.specs.declared.state.DeliveryState.{DeliveryState}
use Rattle.amqp_model.specs.declared.state.DeliveryState.TheVariants as state
use Rattle.amqp_perf.specs.Faults.{by_fault, ◌>>=◌}
use Rattle.amqp_model.specs.PerfFaults.{outer}
use Rattle.amqp_perf.specs.Fields.{At, ended, name_of, opening_at, carried}
use Rattle.amqp_perf.specs.States.{error_fields, error_by, error_in, error_at, received_fields, rejected_fields, modified_fields, state_by, state_in, state_at}
use Rattle.amqp_perf.specs.Fitting.{names_state}
use Rattle.amqp_perf.specs.Tables.{Field, IsCarried, Names, NoneNames, optional}
use Rattle.amqp_perf.specs.ListTables.{error_table, error, received_table, rejected_table, modified_table, state_names, delivery_state}
use Rattle.amqp_perf.proofs.WrittenStates.{state_other}
use Rattle.amqp_perf.proofs.TableNames.{name_sound}
use Rattle.amqp_perf.proofs.TablePlaces.{found, bind_ok, found_is, Ready, Read, moved, finished, ended_ready, Agrees, field, last}
use Rattle.amqp_perf.proofs.TableFields.{flag_agrees, mandatory_uint, mandatory_ulong, optional_string, mandatory_symbol, optional_map}
use Rattle.amqp_perf.proofs.TableLists.{described_parts, opening_ready}
use Rattle.amqp_perf.proofs.TableNested.{Found, ReadsKind, in_place_agrees, null_opens, null_found, never_refused, list_found, list_reads, carried_parts, apart}

-- ---- errors

error_sound : (n : ℕ) (at : At) (x : Fault) → at.depth ≡ n → error_fields at ≡ Ok x → Read at (error_table x)
unfolding error_fields
error_sound n at x deep e =
    field (mandatory_symbol n) at _ x deep e (λ x1 at1 d1 m1 e1.
    field (optional_string n) at1 _ x d1 e1 (λ x2 at2 d2 m2 e2.
    field (optional_map n) at2 _ x d2 e2 (λ x3 at3 d3 m3 e3.
    last at3 _ x e3 (λ end is.
    subst (λ y. Read at (error_table y)) (found_is _ x is) (moved at _ _ at1 m1 (moved at1 _ _ at2 m2 (moved at2 _ _ at3 m3 end)))))))

error_complete : (n : ℕ) (at : At) (x : Fault) → at.depth ≡ n → Ready at (error_table x) → error_fields at ≡ Ok x
unfolding error_fields
error_complete n at x deep r =
    let t1 = (mandatory_symbol n).ready at x.condition _ deep r in
    let t2 = (optional_string n).ready t1.behind x.description _ t1.deep t1.ready in
    let t3 = (optional_map n).ready t2.behind x.info _ t2.deep t2.ready in
    rw (t1.took, t2.took, t3.took, ended_ready t3.behind t3.ready) refl

pub error_reads : (n : ℕ) → ReadsKind (suc (suc n)) error_in error
unfolding error_in
error_reads n = record { sound = sound; complete = complete; never = λ x h. let e = h.is in absurd cc }
  where
    by_opening : (bytes : List ℕ) (o : Option Fault) (rest : List ℕ) (p : Opening) (more : List ℕ) → opening_at (suc (suc n)) bytes ≡ Ok (p, more) → error_by (suc (suc n)) bytes (p, more) ≡ Ok (o, rest) → Found (suc (suc n)) bytes rest (optional error o)
    by_opening bytes o rest opening.Null more opens e = null_found (suc n) error bytes more rest o opens e
    by_opening bytes o rest (opening.Described (Some is.Error)) more opens e =
        list_found n 3 is.Error error_fields error_table (λ y. y) error (error_sound n) (λ x. refl) (λ x v h. h) bytes more rest o opens e
    by_opening bytes o rest p more opens e = absurd (never_refused (suc (suc n)) bytes (o, rest) e)

    sound : (bytes : List ℕ) (o : Option Fault) (rest : List ℕ) → error_in (suc (suc n)) bytes ≡ Ok (o, rest) → Found (suc (suc n)) bytes rest (optional error o)
    sound bytes o rest e =
        let x = bind_ok (opening_at (suc (suc n)) bytes) (error_by (suc (suc n)) bytes) (o, rest) e in
        by_opening bytes o rest x.0.0 x.0.1 x.1 x.2

    complete : (text rest : List ℕ) (v : Data) (o : Option Fault) → Spells (suc (suc n)) text v → optional error o v → error_in (suc (suc n)) (text ++ rest) ≡ Ok (o, rest)
    complete text rest v None s h = ap (λ r. r >>= error_by (suc (suc n)) (text ++ rest)) (null_opens (suc n) text rest v s h)
    complete text rest v (Some x) s h =
        let r = list_reads n 3 is.Error error_fields error_table (λ y. y) (error_complete n) (λ x. refl) text rest v x s h in
        ap (λ r. r >>= error_by (suc (suc n)) (text ++ rest)) r.opens ∙ r.reads

pub optional_error : (n : ℕ) → Agrees (suc (suc n)) error_at (optional error)
unfolding error_at
optional_error n = in_place_agrees (suc (suc n)) error_in error (error_reads n)

-- ---- delivery states

received_sound : (n : ℕ) (at : At) (x : Received) → at.depth ≡ n → received_fields at ≡ Ok x → Read at (received_table x)
unfolding received_fields
received_sound n at x deep e =
    field (mandatory_uint n) at _ x deep e (λ x1 at1 d1 m1 e1.
    field (mandatory_ulong n) at1 _ x d1 e1 (λ x2 at2 d2 m2 e2.
    last at2 _ x e2 (λ end is.
    subst (λ y. Read at (received_table y)) (found_is _ x is) (moved at _ _ at1 m1 (moved at1 _ _ at2 m2 end)))))

received_complete : (n : ℕ) (at : At) (x : Received) → at.depth ≡ n → Ready at (received_table x) → received_fields at ≡ Ok x
unfolding received_fields
received_complete n at x deep r =
    let t1 = (mandatory_uint n).ready at x.section_number _ deep r in
    let t2 = (mandatory_ulong n).ready t1.behind x.section_offset _ t1.deep t1.ready in
    rw (t1.took, t2.took, ended_ready t2.behind t2.ready) refl

rejected_sound : (n : ℕ) (at : At) (x : Rejected) → at.depth ≡ suc (suc n) → rejected_fields at ≡ Ok x → Read at (rejected_table x)
unfolding rejected_fields
rejected_sound n at x deep e =
    field (optional_error n) at _ x deep e (λ x1 at1 d1 m1 e1.
    last at1 _ x e1 (λ end is.
    subst (λ y. Read at (rejected_table y)) (found_is _ x is) (moved at _ _ at1 m1 end)))

rejected_complete : (n : ℕ) (at : At) (x : Rejected) → at.depth ≡ suc (suc n) → Ready at (rejected_table x) → rejected_fields at ≡ Ok x
unfolding rejected_fields
rejected_complete n at x deep r =
    let t1 = (optional_error n).ready at x.error _ deep r in
    rw (t1.took, ended_ready t1.behind t1.ready) refl

modified_sound : (n : ℕ) (at : At) (x : Modified) → at.depth ≡ n → modified_fields at ≡ Ok x → Read at (modified_table x)
unfolding modified_fields
modified_sound n at x deep e =
    field (flag_agrees n) at _ x deep e (λ x1 at1 d1 m1 e1.
    field (flag_agrees n) at1 _ x d1 e1 (λ x2 at2 d2 m2 e2.
    field (optional_map n) at2 _ x d2 e2 (λ x3 at3 d3 m3 e3.
    last at3 _ x e3 (λ end is.
    subst (λ y. Read at (modified_table y)) (found_is _ x is) (moved at _ _ at1 m1 (moved at1 _ _ at2 m2 (moved at2 _ _ at3 m3 end)))))))

modified_complete : (n : ℕ) (at : At) (x : Modified) → at.depth ≡ n → Ready at (modified_table x) → modified_fields at ≡ Ok x
unfolding modified_fields
modified_complete n at x deep r =
    let t1 = (flag_agrees n).ready at x.delivery_failed _ deep r in
    let t2 = (flag_agrees n).ready t1.behind x.undeliverable_here _ t1.deep t1.ready in
    let t3 = (optional_map n).ready t2.behind x.message_annotations _ t2.deep t2.ready in
    rw (t1.took, t2.took, t3.took, ended_ready t3.behind t3.ready) refl

-- accepted and released have no fields
abbrev no_fields : Unit {0} → List Field
no_fields u = []

none_sound : (n : ℕ) (at : At) (u : Unit {0}) → at.depth ≡ n → ended at ≡ Ok u → Read at (no_fields u)
none_sound n at u deep e = finished at u e

none_complete : (n : ℕ) (at : At) (u : Unit {0}) → at.depth ≡ n → Ready at (no_fields u) → ended at ≡ Ok u
none_complete n at u deep r = ended_ready at r

-- a descriptor of no state, both ways
none_named : (v : Data) (name : Option Descriptor) → names_state name ≡ false → name_of (Some v) ≡ name → NoneNames state_names v
none_named v name other e =
    let out : (known : Descriptor) → names_state (Some known) ≡ true → Names known v → ⊥ = λ known hit h. apart names_state v name known other e hit h in
    (out is.Received refl, (out is.Accepted refl, (out is.Rejected refl, (out is.Released refl, (out is.Modified refl, tt)))))

unnamed : (v : Data) (name : Option Descriptor) → name_of (Some v) ≡ name → NoneNames state_names v → names_state name ≡ false
unnamed v (Some is.Received) e h = absurd (h.0 (name_sound v is.Received e))
unnamed v (Some is.Accepted) e h = absurd (h.1.0 (name_sound v is.Accepted e))
unnamed v (Some is.Rejected) e h = absurd (h.1.1.0 (name_sound v is.Rejected e))
unnamed v (Some is.Released) e h = absurd (h.1.1.1.0 (name_sound v is.Released e))
unnamed v (Some is.Modified) e h = absurd (h.1.1.1.1.0 (name_sound v is.Modified e))
unnamed v name e h = refl

pub carried_reads : (n : ℕ) (text rest : List ℕ) (v : Data) → Spells n text v → carried n (text ++ rest) ≡ Ok (spelling v, rest)
carried_reads n text rest v s = ap (λ r. by_fault outer r >>= λ x. found {A = List ℕ × List ℕ} (spelling x.0, x.1)) (value_at-Spells n text v rest s)

-- a state with another descriptor
other_found : (n : ℕ) (bytes : List ℕ) (o : Option DeliveryState) (rest : List ℕ) (name : Option Descriptor) (more : List ℕ) → names_state name ≡ false → opening_at (suc n) bytes ≡ Ok (opening.Described name, more)
    → (carried (suc n) bytes >>= λ x. found {A = Option DeliveryState × List ℕ} (Some (state.Other x.0), x.1)) ≡ Ok (o, rest) → Found (suc n) bytes rest (optional delivery_state o)
other_found n bytes o rest name more other opens e =
    let x = bind_ok (carried (suc n) bytes) (λ x. found {A = Option DeliveryState × List ℕ} (Some (state.Other x.0), x.1)) (o, rest) e in
    let p = found_is {A = Option DeliveryState × List ℕ} (Some (state.Other x.0.0), x.0.1) (o, rest) x.2 in
    let c = carried_parts n bytes more x.0.1 x.0.0 name opens x.1 in
    record {
      text = c.text;
      value = d.described c.descriptor c.value;
      parts = c.parts ∙ ap (λ (t : List ℕ). c.text ++ t) (ap (λ q. q.1) p);
      spelled = c.spelled;
      holds = subst (λ z. optional delivery_state z (d.described c.descriptor c.value)) (ap (λ q. q.0) p) (record { descriptor = c.descriptor; value = c.value; is = refl; others = none_named c.descriptor name other c.named; carried = c.is });
    }

other_reads : (n : ℕ) (text rest : List ℕ) (v : Data) (bytes : List ℕ) → Spells (suc n) text v → IsCarried state_names bytes v → state_in (suc n) (text ++ rest) ≡ Ok (Some (state.Other bytes), rest)
unfolding state_in
other_reads n text rest v bytes s h =
    let two = described_parts n text h.descriptor h.value (subst (λ w. Spells (suc n) text w) h.is s) in
    let name = name_of (Some h.descriptor) in
    ap (λ r. r >>= state_by (suc n) (text ++ rest)) (opening_ready n text rest h.descriptor h.value name two refl)
    ∙ state_other (suc n) (text ++ rest) (two.second ++ rest) name (unnamed h.descriptor name refl h.others)
    ∙ ap (λ r. r >>= λ x. found {A = Option DeliveryState × List ℕ} (Some (state.Other x.0), x.1)) (carried_reads (suc n) text rest v s)
    ∙ ap (λ (t : List ℕ). found {A = Option DeliveryState × List ℕ} (Some (state.Other t), rest)) (sym h.carried)

abbrev pub Four : ℕ → ℕ
Four n = suc (suc (suc (suc n)))

pub state_reads : (n : ℕ) → ReadsKind (Four n) state_in delivery_state
unfolding state_in
state_reads n = record { sound = sound; complete = complete; never = never }
  where
    never : (x : DeliveryState) → delivery_state x d.null → ⊥
    never (state.Received x) h = let e = h.is in absurd cc
    never state.Accepted h = let e = h.is in absurd cc
    never (state.Rejected x) h = let e = h.is in absurd cc
    never state.Released h = let e = h.is in absurd cc
    never (state.Modified x) h = let e = h.is in absurd cc
    never (state.Other bytes) h = let e = h.is in absurd cc

    by_name : (bytes : List ℕ) (o : Option DeliveryState) (rest : List ℕ) (name : Option Descriptor) (more : List ℕ) → opening_at (Four n) bytes ≡ Ok (opening.Described name, more) → state_by (Four n) bytes (opening.Described name, more) ≡ Ok (o, rest)
        → Found (Four n) bytes rest (optional delivery_state o)
    by_name bytes o rest (Some is.Received) more opens e =
        list_found (suc (suc n)) 2 is.Received received_fields received_table state.Received delivery_state (received_sound (suc (suc n))) (λ x. refl) (λ x v h. h) bytes more rest o opens e
    by_name bytes o rest (Some is.Accepted) more opens e =
        list_found (suc (suc n)) 0 is.Accepted ended no_fields (λ y. state.Accepted) delivery_state (none_sound (suc (suc n))) (λ x. refl) (λ x v h. h) bytes more rest o opens e
    by_name bytes o rest (Some is.Rejected) more opens e =
        list_found (suc (suc n)) 1 is.Rejected rejected_fields rejected_table state.Rejected delivery_state (rejected_sound n) (λ x. refl) (λ x v h. h) bytes more rest o opens e
    by_name bytes o rest (Some is.Released) more opens e =
        list_found (suc (suc n)) 0 is.Released ended no_fields (λ y. state.Released) delivery_state (none_sound (suc (suc n))) (λ x. refl) (λ x v h. h) bytes more rest o opens e
    by_name bytes o rest (Some is.Modified) more opens e =
        list_found (suc (suc n)) 3 is.Modified modified_fields modified_table state.Modified delivery_state (modified_sound (suc (suc n))) (λ x. refl) (λ x v h. h) bytes more rest o opens e
    by_name bytes o rest name more opens e = other_found (suc (suc (suc n))) bytes o rest name more refl opens e

    by_opening : (bytes : List ℕ) (o : Option DeliveryState) (rest : List ℕ) (p : Opening) (more : List ℕ) → opening_at (Four n) bytes ≡ Ok (p, more) → state_by (Four n) bytes (p, more) ≡ Ok (o, rest) → Found (Four n) bytes rest (optional delivery_state o)
    by_opening bytes o rest opening.Null more opens e = null_found (suc (suc (suc n))) delivery_state bytes more rest o opens e
    by_opening bytes o rest opening.Other more opens e = absurd (never_refused (Four n) bytes (o, rest) e)
    by_opening bytes o rest (opening.Described name) more opens e = by_name bytes o rest name more opens e

    sound : (bytes : List ℕ) (o : Option DeliveryState) (rest : List ℕ) → state_in (Four n) bytes ≡ Ok (o, rest) → Found (Four n) bytes rest (optional delivery_state o)
    sound bytes o rest e =
        let x = bind_ok (opening_at (Four n) bytes) (state_by (Four n) bytes) (o, rest) e in
        by_opening bytes o rest x.0.0 x.0.1 x.1 x.2

    complete : (text rest : List ℕ) (v : Data) (o : Option DeliveryState) → Spells (Four n) text v → optional delivery_state o v → state_in (Four n) (text ++ rest) ≡ Ok (o, rest)
    complete text rest v None s h = ap (λ r. r >>= state_by (Four n) (text ++ rest)) (null_opens (suc (suc (suc n))) text rest v s h)
    complete text rest v (Some (state.Received x)) s h =
        let r = list_reads (suc (suc n)) 2 is.Received received_fields received_table state.Received (received_complete (suc (suc n))) (λ x. refl) text rest v x s h in
        ap (λ r. r >>= state_by (Four n) (text ++ rest)) r.opens ∙ r.reads
    complete text rest v (Some state.Accepted) s h =
        let r = list_reads {A = DeliveryState} (suc (suc n)) 0 is.Accepted ended no_fields (λ y. state.Accepted) (none_complete (suc (suc n))) (λ x. refl) text rest v tt s h in
        ap (λ r. r >>= state_by (Four n) (text ++ rest)) r.opens ∙ r.reads
    complete text rest v (Some (state.Rejected x)) s h =
        let r = list_reads (suc (suc n)) 1 is.Rejected rejected_fields rejected_table state.Rejected (rejected_complete n) (λ x. refl) text rest v x s h in
        ap (λ r. r >>= state_by (Four n) (text ++ rest)) r.opens ∙ r.reads
    complete text rest v (Some state.Released) s h =
        let r = list_reads {A = DeliveryState} (suc (suc n)) 0 is.Released ended no_fields (λ y. state.Released) (none_complete (suc (suc n))) (λ x. refl) text rest v tt s h in
        ap (λ r. r >>= state_by (Four n) (text ++ rest)) r.opens ∙ r.reads
    complete text rest v (Some (state.Modified x)) s h =
        let r = list_reads (suc (suc n)) 3 is.Modified modified_fields modified_table state.Modified (modified_complete (suc (suc n))) (λ x. refl) text rest v x s h in
        ap (λ r. r >>= state_by (Four n) (text ++ rest)) r.opens ∙ r.reads
    complete text rest v (Some (state.Other bytes)) s h = other_reads (suc (suc (suc n))) text rest v bytes s h

pub optional_state : (n : ℕ) → Agrees (Four n) state_at (optional delivery_state)
unfolding state_at
optional_state n = in_place_agrees (Four n) state_in delivery_state (state_reads n)
