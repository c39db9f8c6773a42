-- Errors and delivery states that were written, read again.
use Rattle.std.proofs.Common.{◌≡◌, ℕ, suc, ◌-◌, ◌≤◌, Bool, true, false, cond, nat_lt, ◌==◌, List, [], ◌∷◌, ◌++◌, length, Option, Some, None, Ok, refl, sym, ap, subst, ◌∙◌, append_assoc, true≢false, arith}
use Rattle.amqp_model.specs.Codes.{code_of as constructor_of}
use Rattle.amqp_model.specs.Data as d
use Rattle.amqp_model.specs.Data.{Data}
use Rattle.amqp_model.specs.View.{plain_part}
use Rattle.amqp_types.specs.Reading.{to, value_at}
use Rattle.amqp_model.specs.declared.code.Kind.TheVariants as kind
use Rattle.amqp_model.specs.ValueSpelling.{constructed, piece_by, spelling}
use Rattle.std.specs.Int.{w32, w64, to_be_bytes}
use Rattle.std.proofs.lemmas.List.{length-append}
use Rattle.amqp_types.specs.Fitting.{FitsIn}
use Rattle.amqp_types.proofs.RoundTrip.{value_at-spelling}
use Rattle.amqp_model.specs.declared.perf_fault.PerfFault.TheVariants as fault
use Rattle.amqp_model.specs.declared.descriptor.Descriptor.{Descriptor}
use Rattle.amqp_model.specs.declared.descriptor.Descriptor.TheVariants as is
use Rattle.amqp_perf.specs.declared.opening.Opening.TheVariants as opening
use Rattle.amqp_model.specs.declared.state.Fault.{Fault}
use Rattle.amqp_model.specs.declared.state.Received.{Received}
use Rattle.amqp_model.specs.declared.state.Rejected.{Rejected}
use Rattle.amqp_model.specs.declared.state.Modified.{Modified}
use Rattle.amqp_model.specs.declared.state.DeliveryState.{DeliveryState}
use Rattle.amqp_model.specs.declared.state.DeliveryState.TheVariants as state
use Rattle.amqp_perf.specs.Faults.{by_fault, ◌>>=◌}
use Rattle.amqp_model.specs.PerfFaults.{outer}
use Rattle.amqp_perf.specs.Fields.{ended, name_of, opening_at, carried}
use Rattle.amqp_perf.specs.States.{error_fields, error_by, error_in, error_at, received_fields, rejected_fields, modified_fields, state_by, state_in, state_at}
use Rattle.amqp_model.specs.Texts.{FieldText, given, field_bytes, spelt, flag_text, mapped, described_text}
use Rattle.amqp_model.specs.PerfSpelling.{error_texts, error_text, received_texts, rejected_texts, modified_texts, state_spelling, state_text}
use Rattle.amqp_perf.specs.Fitting.{Each, IsMap, IsShort, FitsError, FitsReceived, FitsRejected, FitsModified, FitsState, names_state}
use Rattle.amqp_perf.proofs.WrittenPlaces.{found, place, place_ended, in_place-text, in_place-some, in_place-none}
use Rattle.amqp_perf.proofs.WrittenFields.{flag_again, required_uint_again, required_ulong_again, text_again, required_symbol_again, map_again}
use Rattle.amqp_perf.proofs.WrittenLists.{opening_again, fields_again}

-- ---- a value that is carried

pub opening_carried : (depth : ℕ) (a b : Data) (rest : List ℕ) → FitsIn (suc (suc depth)) (d.described a b)
    → opening_at (suc (suc depth)) (spelling (d.described a b) ++ rest) ≡ Ok (opening.Described (name_of (plain_part a)), spelling b ++ rest)
unfolding opening_at constructor_of spelling FitsIn
opening_carried depth a b rest h =
    let less : suc (suc depth) - 1 ≡ suc depth = omega arith in
    ap (λ n. by_fault outer (to plain_part (value_at n ((spelling a ++ spelling b) ++ rest))) >>= λ x. found (opening.Described (name_of x.0), x.1)) less
    ∙ ap (λ (t : List ℕ). by_fault outer (to plain_part (value_at (suc depth) t)) >>= λ x. found (opening.Described (name_of x.0), x.1)) (append_assoc (spelling a) (spelling b) rest)
    ∙ ap (λ r. by_fault outer (to plain_part r) >>= λ x. found (opening.Described (name_of x.0), x.1)) (value_at-spelling (suc depth) a (spelling b ++ rest) h.0)

pub carried_again : (depth : ℕ) (v : Data) (rest : List ℕ) → FitsIn depth v → carried depth (spelling v ++ rest) ≡ Ok (spelling v, rest)
carried_again depth v rest h = ap (λ r. by_fault outer r >>= λ x. found (spelling x.0, x.1)) (value_at-spelling depth v rest h)

pub opening_null : (depth : ℕ) (rest : List ℕ) → opening_at depth (0x40 ∷ rest) ≡ Ok (opening.Null, rest)
unfolding opening_at constructor_of
opening_null depth rest = refl

pub less_two : (depth : ℕ) → suc (suc depth) - 2 ≡ depth
less_two depth = omega arith

-- ---- errors

error_fields_again : (depth : ℕ) (x : Fault) → FitsError (suc (suc (suc depth))) x → error_fields (place (suc depth) (error_texts x)) ≡ Ok x
unfolding error_fields
error_fields_again depth x h =
    let info : Each (IsMap (suc depth)) x.info = subst (λ n. Each (IsMap n) x.info) (less_two (suc depth)) h.info in
    rw (required_symbol_again depth x.condition ((mapped d.string x.description) ∷ (x.info) ∷ []) h.condition, text_again depth x.description ((x.info) ∷ []) h.description, map_again depth x.info [] info, place_ended (suc depth)) refl

error_in_again : (depth : ℕ) (x : Fault) (rest : List ℕ) → FitsError (suc (suc (suc depth))) x → error_in (suc (suc (suc depth))) (described_text is.Error (error_texts x) ++ rest) ≡ Ok (Some x, rest)
unfolding error_in
error_in_again depth x rest h =
    ap (λ r. r >>= error_by (suc (suc (suc depth))) (described_text is.Error (error_texts x) ++ rest)) (opening_again (suc depth) is.Error (error_texts x) rest)
    ∙ fields_again depth 3 fault.WrongKind (error_texts x) rest error_fields (λ y. Some y) x (omega arith) (omega arith) h.whole (error_fields_again depth x h)

error_in_null : (depth : ℕ) (rest : List ℕ) → error_in depth (0x40 ∷ rest) ≡ Ok (None, rest)
unfolding error_in
error_in_null depth rest = ap (λ r. r >>= error_by depth (0x40 ∷ rest)) (opening_null depth rest)

pub error_at_again : (depth : ℕ) (x : Option Fault) (fs : List FieldText) → Each (FitsError (suc (suc (suc depth)))) x
    → error_at (place (suc (suc (suc depth))) (error_text x ∷ fs)) ≡ Ok (x, place (suc (suc (suc depth))) fs)
unfolding error_at
error_at_again depth None fs h = in_place-none error_in (suc (suc (suc depth))) fs (error_in_null (suc (suc (suc depth))))
error_at_again depth (Some x) fs h = in_place-some error_in (suc (suc (suc depth))) (described_text is.Error (error_texts x)) x fs (λ rest. error_in_again depth x rest h)

-- ---- delivery states

received_fields_again : (depth : ℕ) (x : Received) → FitsReceived x → received_fields (place (suc depth) (received_texts x)) ≡ Ok x
unfolding received_fields
received_fields_again depth x h = rw (required_uint_again depth x.section_number ((spelt (d.ulong x.section_offset)) ∷ []) h.section_number, required_ulong_again depth x.section_offset [] h.section_offset, place_ended (suc depth)) refl

uint_short : (n : ℕ) → length (spelling (d.uint n)) ≤ 5
unfolding spelling
uint_short n = by_test (n == 0) (nat_lt n 256)
  where
    by_test : (none small : Bool) → length (cond none (0x43 ∷ []) (constructed kind.Uint (piece_by small (n ∷ []) (to_be_bytes w32 n)))) ≤ 5
    by_test true small = omega arith
    by_test false true = omega arith
    by_test false false = omega arith

ulong_short : (n : ℕ) → length (spelling (d.ulong n)) ≤ 9
unfolding spelling
ulong_short n = by_test (n == 0) (nat_lt n 256)
  where
    by_test : (none small : Bool) → length (cond none (0x44 ∷ []) (constructed kind.Ulong (piece_by small (n ∷ []) (to_be_bytes w64 n)))) ≤ 9
    by_test true small = omega arith
    by_test false true = omega arith
    by_test false false = omega arith

pub received_short : (x : Received) → IsShort (received_texts x)
unfolding given
received_short x =
    let number = spelling (d.uint x.section_number) in
    let offset = spelling (d.ulong x.section_offset) in
    let first = uint_short x.section_number in
    let second = ulong_short x.section_offset in
    let all = length-append number (offset ++ []) in
    let last = length-append offset [] in
    omega (arith, first, second, all, last)

rejected_fields_again : (depth : ℕ) (x : Rejected) → FitsRejected (suc (suc (suc (suc (suc depth))))) x → rejected_fields (place (suc (suc (suc depth))) (rejected_texts x)) ≡ Ok x
unfolding rejected_fields
rejected_fields_again depth x h =
    let error : Each (FitsError (suc (suc (suc depth)))) x.error = subst (λ n. Each (FitsError n) x.error) (less_two (suc (suc (suc depth)))) h.error in
    rw (error_at_again depth x.error [] error, place_ended (suc (suc (suc depth)))) refl

modified_fields_again : (depth : ℕ) (x : Modified) → FitsModified (suc (suc (suc depth))) x → modified_fields (place (suc depth) (modified_texts x)) ≡ Ok x
unfolding modified_fields
modified_fields_again depth x h =
    let message_annotations : Each (IsMap (suc depth)) x.message_annotations = subst (λ n. Each (IsMap n) x.message_annotations) (less_two (suc depth)) h.message_annotations in
    rw (flag_again depth x.delivery_failed ((flag_text x.undeliverable_here) ∷ (x.message_annotations) ∷ []), flag_again depth x.undeliverable_here ((x.message_annotations) ∷ []), map_again depth x.message_annotations [] message_annotations, place_ended (suc depth)) refl

pub state_other : (depth : ℕ) (bytes rest : List ℕ) (n : Option Descriptor) → names_state n ≡ false → state_by depth bytes (opening.Described n, rest) ≡ (carried depth bytes >>= λ x. Ok (Some (state.Other x.0), x.1))
state_other depth bytes rest None h = refl
state_other depth bytes rest (Some is.Open) h = refl
state_other depth bytes rest (Some is.Begin) h = refl
state_other depth bytes rest (Some is.Attach) h = refl
state_other depth bytes rest (Some is.Flow) h = refl
state_other depth bytes rest (Some is.Transfer) h = refl
state_other depth bytes rest (Some is.Disposition) h = refl
state_other depth bytes rest (Some is.Detach) h = refl
state_other depth bytes rest (Some is.End) h = refl
state_other depth bytes rest (Some is.Close) h = refl
state_other depth bytes rest (Some is.Error) h = refl
state_other depth bytes rest (Some is.Received) h = absurd (true≢false h)
state_other depth bytes rest (Some is.Accepted) h = absurd (true≢false h)
state_other depth bytes rest (Some is.Rejected) h = absurd (true≢false h)
state_other depth bytes rest (Some is.Released) h = absurd (true≢false h)
state_other depth bytes rest (Some is.Modified) h = absurd (true≢false h)
state_other depth bytes rest (Some is.Source) h = refl
state_other depth bytes rest (Some is.Target) h = refl
state_other depth bytes rest (Some is.SaslMechanisms) h = refl
state_other depth bytes rest (Some is.SaslInit) h = refl
state_other depth bytes rest (Some is.SaslChallenge) h = refl
state_other depth bytes rest (Some is.SaslResponse) h = refl
state_other depth bytes rest (Some is.SaslOutcome) h = refl

pub nothing_short : IsShort []
unfolding given
nothing_short = omega arith

pub state_in_again : (depth : ℕ) (x : DeliveryState) (rest : List ℕ) → FitsState (suc (suc (suc (suc (suc depth))))) x
    → state_in (suc (suc (suc (suc (suc depth))))) (state_spelling x ++ rest) ≡ Ok (Some x, rest)
unfolding state_in state_spelling
state_in_again depth (state.Received x) rest h =
    ap (λ r. r >>= state_by (suc (suc (suc (suc (suc depth))))) (described_text is.Received (received_texts x) ++ rest)) (opening_again (suc (suc (suc depth))) is.Received (received_texts x) rest)
    ∙ fields_again (suc (suc depth)) 2 fault.WrongKind (received_texts x) rest received_fields (λ y. Some (state.Received y)) x (omega arith) (omega arith) (received_short x) (received_fields_again (suc (suc depth)) x h)
state_in_again depth state.Accepted rest h =
    ap (λ r. r >>= state_by (suc (suc (suc (suc (suc depth))))) (described_text is.Accepted [] ++ rest)) (opening_again (suc (suc (suc depth))) is.Accepted [] rest)
    ∙ fields_again (suc (suc depth)) 0 fault.WrongKind [] rest ended (λ y. Some state.Accepted) tt (omega arith) (omega arith) nothing_short (place_ended (suc (suc (suc depth))))
state_in_again depth (state.Rejected x) rest h =
    ap (λ r. r >>= state_by (suc (suc (suc (suc (suc depth))))) (described_text is.Rejected (rejected_texts x) ++ rest)) (opening_again (suc (suc (suc depth))) is.Rejected (rejected_texts x) rest)
    ∙ fields_again (suc (suc depth)) 1 fault.WrongKind (rejected_texts x) rest rejected_fields (λ y. Some (state.Rejected y)) x (omega arith) (omega arith) h.whole (rejected_fields_again depth x h)
state_in_again depth state.Released rest h =
    ap (λ r. r >>= state_by (suc (suc (suc (suc (suc depth))))) (described_text is.Released [] ++ rest)) (opening_again (suc (suc (suc depth))) is.Released [] rest)
    ∙ fields_again (suc (suc depth)) 0 fault.WrongKind [] rest ended (λ y. Some state.Released) tt (omega arith) (omega arith) nothing_short (place_ended (suc (suc (suc depth))))
state_in_again depth (state.Modified x) rest h =
    ap (λ r. r >>= state_by (suc (suc (suc (suc (suc depth))))) (described_text is.Modified (modified_texts x) ++ rest)) (opening_again (suc (suc (suc depth))) is.Modified (modified_texts x) rest)
    ∙ fields_again (suc (suc depth)) 3 fault.WrongKind (modified_texts x) rest modified_fields (λ y. Some (state.Modified y)) x (omega arith) (omega arith) h.whole (modified_fields_again (suc (suc depth)) x h)
state_in_again depth (state.Other bytes) rest h =
    let v = d.described h.descriptor h.value in
    subst (λ (t : List ℕ). state_in (suc (suc (suc (suc (suc depth))))) (t ++ rest) ≡ Ok (Some (state.Other t), rest)) (sym h.canonical)
    (ap (λ r. r >>= state_by (suc (suc (suc (suc (suc depth))))) (spelling v ++ rest)) (opening_carried (suc (suc (suc depth))) h.descriptor h.value rest h.fits)
    ∙ state_other (suc (suc (suc (suc (suc depth))))) (spelling v ++ rest) (spelling h.value ++ rest) (name_of (plain_part h.descriptor)) h.unknown
    ∙ ap (λ r. r >>= λ x. found (Some (state.Other x.0), x.1)) (carried_again (suc (suc (suc (suc (suc depth))))) v rest h.fits))

state_in_null : (depth : ℕ) (rest : List ℕ) → state_in depth (0x40 ∷ rest) ≡ Ok (None, rest)
unfolding state_in
state_in_null depth rest = ap (λ r. r >>= state_by depth (0x40 ∷ rest)) (opening_null depth rest)

-- a state, or null, whose encoding is always there
pub state_kept_again : (depth : ℕ) (x : Option DeliveryState) (fs : List FieldText) → Each (FitsState (suc (suc (suc (suc (suc depth)))))) x
    → state_at (place (suc (suc (suc (suc (suc depth))))) (Some (field_bytes (state_text x)) ∷ fs)) ≡ Ok (x, place (suc (suc (suc (suc (suc depth))))) fs)
unfolding state_at
state_kept_again depth None fs h = in_place-text state_in (suc (suc (suc (suc (suc depth))))) (0x40 ∷ []) None fs (state_in_null (suc (suc (suc (suc (suc depth))))))
state_kept_again depth (Some x) fs h = in_place-text state_in (suc (suc (suc (suc (suc depth))))) (state_spelling x) (Some x) fs (λ rest. state_in_again depth x rest h)

pub state_at_again : (depth : ℕ) (x : Option DeliveryState) (fs : List FieldText) → Each (FitsState (suc (suc (suc (suc (suc depth)))))) x
    → state_at (place (suc (suc (suc (suc (suc depth))))) (state_text x ∷ fs)) ≡ Ok (x, place (suc (suc (suc (suc (suc depth))))) fs)
unfolding state_at
state_at_again depth None fs h = in_place-none state_in (suc (suc (suc (suc (suc depth))))) fs (state_in_null (suc (suc (suc (suc (suc depth))))))
state_at_again depth (Some x) fs h = in_place-some state_in (suc (suc (suc (suc (suc depth))))) (state_spelling x) x fs (λ rest. state_in_again depth x rest h)
