-- A whole performative, SASL body or delivery state against its table.
use Rattle.std.proofs.Common.{◌≡◌, ℕ, ◌-◌, ◌≤◌, List, [], ◌++◌, length, take, Option, Some, None, Result, Ok, Err, refl, sym, ap, subst, ◌∙◌, arith}
use Rattle.std.proofs.lemmas.List.{length-append}
use Rattle.std.proofs.Math.Seq.{take-append_seam}
use Rattle.amqp_types.specs.Reading.{after, value_at}
use Rattle.amqp_types.specs.Spells.{Spells}
use Rattle.amqp_types.proofs.Lengths.{none_begins}
use Rattle.amqp_model.specs.declared.perf_fault.PerfFault.{PerfFault}
use Rattle.amqp_model.specs.declared.perf_fault.PerfFault.TheVariants as fault
use Rattle.amqp_model.specs.declared.descriptor.Descriptor.{Descriptor}
use Rattle.amqp_model.specs.declared.descriptor.Descriptor.TheVariants as is
use Rattle.amqp_perf.specs.declared.opening.Opening.{Opening}
use Rattle.amqp_perf.specs.declared.opening.Opening.TheVariants as opening
use Rattle.amqp_model.specs.declared.perf.Perf.{Perf}
use Rattle.amqp_model.specs.declared.perf.Perf.TheVariants as perf
use Rattle.amqp_model.specs.declared.state.DeliveryState.{DeliveryState}
use Rattle.amqp_perf.specs.Faults.{by_fault, ◌>>=◌}
use Rattle.amqp_model.specs.PerfFaults.{outer}
use Rattle.amqp_perf.specs.Fields.{At, opening_at, listed}
use Rattle.amqp_perf.specs.States.{state_in}
use Rattle.amqp_perf.specs.Performative.{limit_of, body, behind, performative_by, performative_at, performative, some_state, state, open_fields, begin_fields, attach_fields, flow_fields, transfer_fields, disposition_fields, detach_fields, end_fields, close_fields, sasl_mechanisms_fields, sasl_init_fields, sasl_challenge_fields, sasl_response_fields, sasl_outcome_fields}
use Rattle.amqp_model.specs.PerfSpelling.{spelling, state_spelling}
use Rattle.amqp_perf.specs.Fitting.{Fits, FitsState, read_as}
use Rattle.amqp_perf.specs.Tables.{Field, SpellsList}
use Rattle.amqp_perf.specs.ListTables.{SpellsPerf, SpellsState, delivery_state, open_table, begin_table, attach_table, flow_table, transfer_table, disposition_table, detach_table, end_table, close_table, sasl_mechanisms_table, sasl_init_table, sasl_challenge_table, sasl_response_table, sasl_outcome_table}
use Rattle.amqp_perf.proofs.WrittenPerformatives.{performative_again, state_again}
use Rattle.amqp_perf.proofs.TablePlaces.{found, bind_ok, found_is, Ready, Read}
use Rattle.amqp_perf.proofs.TableLists.{opened_parts, list_sound, list_complete}
use Rattle.amqp_perf.proofs.TableStates.{state_reads}
use Rattle.amqp_perf.proofs.TablePerfs.{open_sound, open_complete, begin_sound, begin_complete, attach_sound, attach_complete, flow_sound, flow_complete, transfer_sound, transfer_complete, disposition_sound, disposition_complete, detach_sound, detach_complete, end_sound, end_complete, close_sound, close_complete, sasl_mechanisms_sound, sasl_mechanisms_complete, sasl_init_sound, sasl_init_complete, sasl_challenge_sound, sasl_challenge_complete, sasl_response_sound, sasl_response_complete, sasl_outcome_sound, sasl_outcome_complete}

abbrev read_before : Perf → List ℕ → Result (Perf × List ℕ) PerfFault
read_before p rest = Ok (p, rest)

-- ---- what is read is encoded so

record PerfFound (bytes rest : List ℕ) (p : Perf) : Type 0 where
  pub text : List ℕ
  pub parts : bytes ≡ text ++ rest
  pub spelled : SpellsPerf text p

body_found : {X : Type 0} (limit : ℕ) (name : Descriptor) (fields : At → Result X PerfFault) (table : X → List Field) (see : X → Perf)
    → ((at : At) (x : X) → at.depth ≡ 30 → fields at ≡ Ok x → Read at (table x)) → ((x : X) → length (table x) ≡ limit) → ((x : X) (text : List ℕ) → SpellsList 32 name (table x) text → SpellsPerf text (see x))
    → (bytes more rest : List ℕ) (p : Perf) → opening_at 32 bytes ≡ Ok (opening.Described (Some name), more)
    → (listed 31 limit fault.NotPerformative more >>= λ list. (fields list.0 >>= λ x. found (see x)) >>= λ p. read_before p list.1) ≡ Ok (p, rest) → PerfFound bytes rest p
body_found limit name fields table see sound size means bytes more rest p opens e =
    let l = bind_ok (listed 31 limit fault.NotPerformative more) (λ list. (fields list.0 >>= λ x. found (see x)) >>= λ p. read_before p list.1) (p, rest) e in
    let b = bind_ok (fields l.0.0 >>= λ x. found (see x)) (λ p. read_before p l.0.1) (p, rest) l.2 in
    let x = bind_ok (fields l.0.0) (λ x. found (see x)) b.0 b.1 in
    let q = found_is (b.0, l.0.1) (p, rest) b.2 in
    let s = list_sound 30 limit fault.NotPerformative name fields table sound size bytes more l.0.1 l.0.0 x.0 (opened_parts 32 bytes more (Some name) opens) l.1 x.1 in
    record {
      text = s.0;
      parts = s.1 ∙ ap (λ (t : List ℕ). s.0 ++ t) (ap (λ q. q.1) q);
      spelled = subst (λ p. SpellsPerf s.0 p) (found_is (see x.0) b.0 x.2 ∙ ap (λ q. q.0) q) (means x.0 s.0 s.2);
    }

by_name : (bytes rest : List ℕ) (p : Perf) (name : Descriptor) (more : List ℕ) → opening_at 32 bytes ≡ Ok (opening.Described (Some name), more) → behind name (limit_of name) more ≡ Ok (p, rest) → PerfFound bytes rest p
by_name bytes rest p is.Open more opens e = body_found 10 is.Open open_fields open_table perf.Open open_sound (λ x. refl) (λ x text h. h) bytes more rest p opens e
by_name bytes rest p is.Begin more opens e = body_found 8 is.Begin begin_fields begin_table perf.Begin begin_sound (λ x. refl) (λ x text h. h) bytes more rest p opens e
by_name bytes rest p is.Attach more opens e = body_found 14 is.Attach attach_fields attach_table perf.Attach attach_sound (λ x. refl) (λ x text h. h) bytes more rest p opens e
by_name bytes rest p is.Flow more opens e = body_found 11 is.Flow flow_fields flow_table perf.Flow flow_sound (λ x. refl) (λ x text h. h) bytes more rest p opens e
by_name bytes rest p is.Transfer more opens e = body_found 11 is.Transfer transfer_fields transfer_table perf.Transfer transfer_sound (λ x. refl) (λ x text h. h) bytes more rest p opens e
by_name bytes rest p is.Disposition more opens e = body_found 6 is.Disposition disposition_fields disposition_table perf.Disposition disposition_sound (λ x. refl) (λ x text h. h) bytes more rest p opens e
by_name bytes rest p is.Detach more opens e = body_found 3 is.Detach detach_fields detach_table perf.Detach detach_sound (λ x. refl) (λ x text h. h) bytes more rest p opens e
by_name bytes rest p is.End more opens e = body_found 1 is.End end_fields end_table perf.End end_sound (λ x. refl) (λ x text h. h) bytes more rest p opens e
by_name bytes rest p is.Close more opens e = body_found 1 is.Close close_fields close_table perf.Close close_sound (λ x. refl) (λ x text h. h) bytes more rest p opens e
by_name bytes rest p is.SaslMechanisms more opens e = body_found 1 is.SaslMechanisms sasl_mechanisms_fields sasl_mechanisms_table perf.SaslMechanisms sasl_mechanisms_sound (λ x. refl) (λ x text h. h) bytes more rest p opens e
by_name bytes rest p is.SaslInit more opens e = body_found 3 is.SaslInit sasl_init_fields sasl_init_table perf.SaslInit sasl_init_sound (λ x. refl) (λ x text h. h) bytes more rest p opens e
by_name bytes rest p is.SaslChallenge more opens e = body_found 1 is.SaslChallenge sasl_challenge_fields sasl_challenge_table perf.SaslChallenge sasl_challenge_sound (λ x. refl) (λ x text h. h) bytes more rest p opens e
by_name bytes rest p is.SaslResponse more opens e = body_found 1 is.SaslResponse sasl_response_fields sasl_response_table perf.SaslResponse sasl_response_sound (λ x. refl) (λ x text h. h) bytes more rest p opens e
by_name bytes rest p is.SaslOutcome more opens e = body_found 2 is.SaslOutcome sasl_outcome_fields sasl_outcome_table perf.SaslOutcome sasl_outcome_sound (λ x. refl) (λ x text h. h) bytes more rest p opens e
by_name bytes rest p name more opens e = absurd cc

performative_found : (bytes rest : List ℕ) (p : Perf) → performative_at bytes ≡ Ok (p, rest) → PerfFound bytes rest p
unfolding performative_at
performative_found bytes rest p e =
    let x = bind_ok (opening_at 32 bytes) (performative_by bytes) (p, rest) e in
    by_opening x.0.0 x.0.1 x.1 x.2
  where
    never : (r : Result (List ℕ) PerfFault) → (r >>= λ _. Err fault.NotPerformative) ≡ read_before p rest → ⊥
    never (Ok x) e = absurd cc
    never (Err f) e = absurd cc

    by_opening : (o : Opening) (more : List ℕ) → opening_at 32 bytes ≡ Ok (o, more) → performative_by bytes (o, more) ≡ Ok (p, rest) → PerfFound bytes rest p
    by_opening (opening.Described (Some name)) more opens e = by_name bytes rest p name more opens e
    by_opening (opening.Described None) more opens e = absurd cc
    by_opening o more opens e = absurd (never (by_fault outer (after (value_at 32 bytes))) e)

-- ---- what is encoded so is read

body_reads : {X : Type 0} (limit : ℕ) (name : Descriptor) (fields : At → Result X PerfFault) (table : X → List Field) (see : X → Perf)
    → ((at : At) (x : X) → at.depth ≡ 30 → Ready at (table x) → fields at ≡ Ok x) → ((x : X) → length (table x) ≡ limit) → limit_of name ≡ Some limit → ((at : At) → body name at ≡ (fields at >>= λ x. found (see x)))
    → (text rest : List ℕ) (x : X) → SpellsList 32 name (table x) text → performative_at (text ++ rest) ≡ Ok (see x, rest)
unfolding performative_at
body_reads limit name fields table see complete size limited reads text rest x h =
    let r = list_complete 30 limit fault.NotPerformative name fields table complete size text rest x h in
    ap (λ r. r >>= performative_by (text ++ rest)) r.opened
    ∙ ap (λ l. behind name l r.behind) limited
    ∙ ap (λ l. l >>= λ list. body name list.0 >>= λ p. read_before p list.1) r.listed
    ∙ ap (λ q. q >>= λ p. read_before p rest) (reads r.at)
    ∙ ap (λ q. q >>= (λ x. found (see x)) >>= λ p. read_before p rest) r.read

spelled_is_read : (p : Perf) (text rest : List ℕ) → SpellsPerf text p → performative_at (text ++ rest) ≡ read_before p rest
spelled_is_read (perf.Open x) text rest h = body_reads 10 is.Open open_fields open_table perf.Open open_complete (λ x. refl) refl (λ at. refl) text rest x h
spelled_is_read (perf.Begin x) text rest h = body_reads 8 is.Begin begin_fields begin_table perf.Begin begin_complete (λ x. refl) refl (λ at. refl) text rest x h
spelled_is_read (perf.Attach x) text rest h = body_reads 14 is.Attach attach_fields attach_table perf.Attach attach_complete (λ x. refl) refl (λ at. refl) text rest x h
spelled_is_read (perf.Flow x) text rest h = body_reads 11 is.Flow flow_fields flow_table perf.Flow flow_complete (λ x. refl) refl (λ at. refl) text rest x h
spelled_is_read (perf.Transfer x) text rest h = body_reads 11 is.Transfer transfer_fields transfer_table perf.Transfer transfer_complete (λ x. refl) refl (λ at. refl) text rest x h
spelled_is_read (perf.Disposition x) text rest h = body_reads 6 is.Disposition disposition_fields disposition_table perf.Disposition disposition_complete (λ x. refl) refl (λ at. refl) text rest x h
spelled_is_read (perf.Detach x) text rest h = body_reads 3 is.Detach detach_fields detach_table perf.Detach detach_complete (λ x. refl) refl (λ at. refl) text rest x h
spelled_is_read (perf.End x) text rest h = body_reads 1 is.End end_fields end_table perf.End end_complete (λ x. refl) refl (λ at. refl) text rest x h
spelled_is_read (perf.Close x) text rest h = body_reads 1 is.Close close_fields close_table perf.Close close_complete (λ x. refl) refl (λ at. refl) text rest x h
spelled_is_read (perf.SaslMechanisms x) text rest h = body_reads 1 is.SaslMechanisms sasl_mechanisms_fields sasl_mechanisms_table perf.SaslMechanisms sasl_mechanisms_complete (λ x. refl) refl (λ at. refl) text rest x h
spelled_is_read (perf.SaslInit x) text rest h = body_reads 3 is.SaslInit sasl_init_fields sasl_init_table perf.SaslInit sasl_init_complete (λ x. refl) refl (λ at. refl) text rest x h
spelled_is_read (perf.SaslChallenge x) text rest h = body_reads 1 is.SaslChallenge sasl_challenge_fields sasl_challenge_table perf.SaslChallenge sasl_challenge_complete (λ x. refl) refl (λ at. refl) text rest x h
spelled_is_read (perf.SaslResponse x) text rest h = body_reads 1 is.SaslResponse sasl_response_fields sasl_response_table perf.SaslResponse sasl_response_complete (λ x. refl) refl (λ at. refl) text rest x h
spelled_is_read (perf.SaslOutcome x) text rest h = body_reads 2 is.SaslOutcome sasl_outcome_fields sasl_outcome_table perf.SaslOutcome sasl_outcome_complete (λ x. refl) refl (λ at. refl) text rest x h

-- ---- with lengths

text_length : (text rest : List ℕ) → length (text ++ rest) - length rest ≡ length text
text_length text rest = let e = length-append text rest in omega (arith, e)

front_is : (bytes text rest : List ℕ) (n : ℕ) → bytes ≡ text ++ rest → length bytes - length rest ≡ n → text ≡ take n bytes
front_is bytes text rest n parts e =
    let counted : length text ≡ n = sym (text_length text rest) ∙ ap (λ (t : List ℕ). length t - length rest) (sym parts) ∙ e in
    sym (ap (λ (t : List ℕ). take n t) parts ∙ ap (λ m. take m (text ++ rest)) (sym counted) ∙ take-append_seam text rest)

within_all : (bytes rest : List ℕ) (n : ℕ) → length bytes - length rest ≡ n → n ≤ length bytes
within_all bytes rest n e = omega (arith, e)

pub read_perf_spelled : (bytes : List ℕ) (p : Perf) (n : ℕ) → performative bytes ≡ read_as p n → SpellsPerf (take n bytes) p × (n ≤ length bytes)
unfolding performative
read_perf_spelled bytes p n e =
    let b = bind_ok (performative_at bytes) (λ x. read_as x.0 (length bytes - length x.1)) (p, n) e in
    let q = found_is (b.0.0, length bytes - length b.0.1) (p, n) b.2 in
    let f = performative_found bytes b.0.1 b.0.0 b.1 in
    (subst (λ p. SpellsPerf (take n bytes) p) (ap (λ q. q.0) q) (subst (λ (t : List ℕ). SpellsPerf t b.0.0) (front_is bytes f.text b.0.1 n f.parts (ap (λ q. q.1) q)) f.spelled), within_all bytes b.0.1 n (ap (λ q. q.1) q))

pub spelled_perf_read : (p : Perf) (text rest : List ℕ) → SpellsPerf text p → performative (text ++ rest) ≡ read_as p (length text)
unfolding performative
spelled_perf_read p text rest h =
    ap (λ r. r >>= λ x. read_as x.0 (length (text ++ rest) - length x.1)) (spelled_is_read p text rest h)
    ∙ ap (λ n. read_as p n) (text_length text rest)

-- the same of a delivery state that stands alone
pub read_state_spelled : (bytes : List ℕ) (s : DeliveryState) (n : ℕ) → state bytes ≡ read_as s n → SpellsState (take n bytes) s × (n ≤ length bytes)
unfolding state
read_state_spelled bytes s n e =
    let b = bind_ok (state_in 32 bytes) (some_state bytes) (s, n) e in
    by_given b.0.0 b.0.1 b.1 b.2
  where
    by_given : (o : Option DeliveryState) (rest : List ℕ) → state_in 32 bytes ≡ Ok (o, rest) → some_state bytes (o, rest) ≡ Ok (s, n) → SpellsState (take n bytes) s × (n ≤ length bytes)
    by_given None rest is e = absurd cc
    by_given (Some y) rest is e =
        let q = found_is (y, length bytes - length rest) (s, n) e in
        let f = (state_reads 28).sound bytes (Some y) rest is in (
          record {
            value = f.value;
            spelled = subst (λ (t : List ℕ). Spells 32 t f.value) (front_is bytes f.text rest n f.parts (ap (λ q. q.1) q)) f.spelled;
            means = subst (λ z. delivery_state z f.value) (ap (λ q. q.0) q) f.holds;
          },
          within_all bytes rest n (ap (λ q. q.1) q),
        )

pub spelled_state_read : (s : DeliveryState) (text rest : List ℕ) → SpellsState text s → state (text ++ rest) ≡ read_as s (length text)
unfolding state
spelled_state_read s text rest h =
    ap (λ r. r >>= some_state (text ++ rest)) ((state_reads 28).complete text rest h.value (Some s) h.spelled h.means)
    ∙ ap (λ n. read_as s n) (text_length text rest)

-- ---- what is written is encoded so

take_all : (text : List ℕ) → take (length text) (text ++ []) ≡ text
take_all text = take-append_seam text []

pub written_perf_spelled : (p : Perf) → Fits p → SpellsPerf (spelling p) p
written_perf_spelled p fits = subst (λ (t : List ℕ). SpellsPerf t p) (take_all (spelling p)) (read_perf_spelled (spelling p ++ []) p (length (spelling p)) (performative_again p [] fits)).0

pub written_state_spelled : (s : DeliveryState) → FitsState 32 s → SpellsState (state_spelling s) s
written_state_spelled s fits = subst (λ (t : List ℕ). SpellsState t s) (take_all (state_spelling s)) (read_state_spelled (state_spelling s ++ []) s (length (state_spelling s)) (state_again s [] fits)).0

-- ---- none begins another

pub no_perf_begins_another : (a b x y : List ℕ) (p q : Perf) → SpellsPerf a p → SpellsPerf b q → a ++ x ≡ b ++ y → (a ≡ b) × (p ≡ q)
no_perf_begins_another a b x y p q first second e =
    let same = found_is (p, length a) (q, length b) (sym (spelled_perf_read p a x first) ∙ ap (λ (t : List ℕ). performative t) e ∙ spelled_perf_read q b y second) in
    ((none_begins 32 a b x y first.value second.value first.spelled second.spelled e).0, ap (λ q. q.0) same)

pub no_state_begins_another : (a b x y : List ℕ) (s t : DeliveryState) → SpellsState a s → SpellsState b t → a ++ x ≡ b ++ y → (a ≡ b) × (s ≡ t)
no_state_begins_another a b x y s t first second e =
    let same = found_is (s, length a) (t, length b) (sym (spelled_state_read s a x first) ∙ ap (λ (t : List ℕ). state t) e ∙ spelled_state_read t b y second) in
    ((none_begins 32 a b x y first.value second.value first.spelled second.spelled e).0, ap (λ q. q.0) same)
