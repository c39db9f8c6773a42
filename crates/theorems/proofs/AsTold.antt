-- What the journal has of an outcome that a peer can send is what the producer is told.
use Rattle.std.proofs.Common.{◌≡◌, refl, sym, ap, subst, ℕ, ◌+◌, ◌≤◌, Bool, true, false, ◌&&◌, List, [], ◌∷◌, ◌++◌, length, length-append, Option, Some, None, arith}
use Rattle.std.specs.Prelude.{nat_lt, codes, is_some, option_map, if◌then◌else◌}
use Rattle.std.specs.Option.{unwrap_or}
use Rattle.std.proofs.Math.Dec.{eqb-suc-zero}
use Rattle.amqp_model.specs.declared.code.Kind.TheVariants as kind
use Rattle.amqp_model.specs.Data as d
use Rattle.amqp_model.specs.ValueSpelling.{constructed, piece_by, compound_piece, list_text, wide_sizes}
use Rattle.amqp_model.specs.Texts.{FieldText, given, given_by, joined, described_text, spelt, mapped, flag_text}
use Rattle.amqp_model.specs.PerfSpelling.{state_spelling, error_texts, rejected_texts, modified_texts}
use Rattle.amqp_model.specs.declared.descriptor.Descriptor.{Descriptor}
use Rattle.amqp_model.specs.declared.descriptor.Descriptor.TheVariants as is
use Rattle.amqp_model.specs.declared.state.DeliveryState.{DeliveryState}
use Rattle.amqp_model.specs.declared.state.DeliveryState.TheVariants as state
use Rattle.amqp_model.specs.declared.state.Fault.{Fault}
use Rattle.amqp_perf.specs.Fitting.{Each, IsText, IsSymbol, IsMap, IsShort, FitsError, FitsState}
use Rattle.journal_codec.specs.Batches.{IsTerminal}
use Rattle.journal_codec.proofs.Kept.{keeps_itself}
use Rattle.journal_codec.proofs.Terminal.{is_outcome}
use Rattle.journal_store.specs.Acting.{journal_outcome}
use Rattle.journal_store.specs.Lost.{failed}
use Rattle.router_trace.specs.Deliveries.{terminal}
use Rattle.router_trace.specs.DeliveryFrames.{kept_condition, kept_error, undescribed, without_info, bare, kept_outcome}
use Rattle.reply_frames.proofs.Short.{kept_len}
use Rattle.theorems.specs.AsTold.{IsSendable, IsKeptAsTold}
use Rattle.theorems.proofs.Encoded.{all_bytes}
use Rattle.theorems.proofs.EncodedStates.{ShortMaps, FitFault, FitParts, perf_fits}

-- A list's encoding holds that of its fields.
list_by : (b : Bool) (n : ℕ) (inside : List ℕ) → length inside ≤ length (constructed kind.List (piece_by b ((length inside + 1) ∷ n ∷ inside) (wide_sizes n (length inside) ++ inside)))
list_by true n inside = omega arith
list_by false n inside = omega arith

list_holds : (gs : List FieldText) → length (joined gs) ≤ length (list_text (length gs) (joined gs))
list_holds [] = omega arith
list_holds (g ∷ gs) =
    let inside = joined (g ∷ gs) in
    subst (λ b. length inside ≤ length (if b then 0x45 ∷ [] else constructed kind.List (compound_piece (length (g ∷ gs)) inside))) (sym (eqb-suc-zero (length gs)))
    (list_by (nat_lt (length inside) 255 && nat_lt (length (g ∷ gs)) 256) (length (g ∷ gs)) inside)

text_holds : (name : Descriptor) (fs : List FieldText) → length (joined (given fs)) ≤ length (described_text name fs)
unfolding described_text
text_holds name fs = (let low = list_holds (given fs) in omega (arith, low))

given_holds : (f : FieldText) (gs : List FieldText) → length (joined gs) ≤ length (joined (given_by f gs))
given_holds None [] = omega arith
given_holds None (g ∷ gs) = omega arith
given_holds (Some t) gs = (let both = length-append t (joined gs) in omega (arith, both))

last_held : (fs : List FieldText) (b : List ℕ) → length b ≤ length (joined (given (fs ++ Some b ∷ [])))
unfolding given
last_held [] b = (let all = length-append b [] in omega (arith, all))
last_held (f ∷ fs) b = (let rest = last_held fs b in let all = given_holds f (given (fs ++ Some b ∷ [])) in omega (arith, rest, all))

short_fields : (name : Descriptor) (fs : List FieldText) → length (described_text name fs) ≤ 400 → IsShort fs
short_fields name fs few = (let all = text_holds name fs in omega (arith, few, all))

last_short : (name : Descriptor) (fs : List FieldText) (b : List ℕ) → length (described_text name (fs ++ Some b ∷ [])) ≤ 400 → length b ≤ 400
last_short name fs b few = (let all = text_holds name (fs ++ Some b ∷ []) in let last = last_held fs b in omega (arith, few, all, last))

-- A state without a description, whose parts fit, is within the limits of its types if it is short.
record PlainFault (f : Fault) : Type 0 where
  condition : IsSymbol f.condition
  description : f.description ≡ None
  info : ShortMaps 28 f.info

abbrev PlainParts : DeliveryState → Type 0
PlainParts (state.Rejected r) = Each PlainFault r.error
PlainParts (state.Modified m) = ShortMaps 30 m.message_annotations
PlainParts _ = Unit {0}

annotations_fit : (one other : FieldText) (o : Option (List ℕ)) → ShortMaps 30 o → length (described_text is.Modified (one ∷ other ∷ o ∷ [])) ≤ 400 → Each (IsMap 30) o
annotations_fit one other None maps few = tt
annotations_fit one other (Some b) maps few = maps (let low = last_short is.Modified (one ∷ other ∷ []) b few in omega (arith, low))

info_fits : (one other : FieldText) (o : Option (List ℕ)) → ShortMaps 28 o → length (described_text is.Error (one ∷ other ∷ o ∷ [])) ≤ 400 → Each (IsMap 28) o
info_fits one other None maps few = tt
info_fits one other (Some b) maps few = maps (let low = last_short is.Error (one ∷ other ∷ []) b few in omega (arith, low))

error_fits : (o : Option Fault) → Each PlainFault o → length (described_text is.Rejected (rejected_texts (record { error = o }))) ≤ 400 → Each (FitsError 30) o
error_fits None plain few = tt
error_fits (Some f) plain few =
    let low = last_short is.Rejected [] (described_text is.Error (error_texts f)) few in
    record {
      condition = plain.condition;
      description = subst (λ (o : Option (List ℕ)). Each IsText o) (sym plain.description) tt;
      info = info_fits (spelt (d.symbol f.condition)) (mapped d.string f.description) f.info plain.info low;
      whole = short_fields is.Error (error_texts f) low;
    }

plain_fits : (s : DeliveryState) → IsTerminal s → PlainParts s → length (state_spelling s) ≤ 400 → FitsState 32 s
unfolding state_spelling
plain_fits (state.Received r) ends plain few = absurd ends
plain_fits (state.Other v) ends plain few = absurd ends
plain_fits state.Accepted ends plain few = tt
plain_fits state.Released ends plain few = tt
plain_fits (state.Rejected r) ends plain few = record { error = error_fits r.error plain few; whole = short_fields is.Rejected (rejected_texts r) few }
plain_fits (state.Modified m) ends plain few = record {
  message_annotations = annotations_fit (flag_text m.delivery_failed) (flag_text m.undeliverable_here) m.message_annotations plain few;
  whole = short_fields is.Modified (modified_texts m) few;
}

-- As the router keeps it, a state has no description, and a short condition.
internal_error : IsSymbol (codes "amqp:internal-error")
internal_error = (omega arith, refl)

not_above : (len most : ℕ) → nat_lt most len ≡ false → len ≤ most
not_above len most h = grind (arith, h)

condition_fits : (s : List ℕ) → (length s ≤ 128 → IsSymbol s) → IsSymbol (kept_condition s)
condition_fits s is = by (nat_lt 128 (length s)) refl
  where
    by : (q : Bool) → nat_lt 128 (length s) ≡ q → IsSymbol (if q then codes "amqp:internal-error" else s)
    by true e = internal_error
    by false e = is (not_above (length s) 128 e)

fault_plain : (f : Fault) → FitFault 28 f → PlainFault (kept_error f)
fault_plain f fits = record { condition = condition_fits f.condition fits.condition; description = refl; info = fits.info }

undescribed_plain : (s : DeliveryState) → FitParts 28 s → PlainParts (undescribed s)
undescribed_plain (state.Received r) fits = tt
undescribed_plain (state.Other v) fits = tt
undescribed_plain state.Accepted fits = tt
undescribed_plain state.Released fits = tt
undescribed_plain (state.Modified m) fits = fits
undescribed_plain (state.Rejected r) fits = by r.error fits
  where
    by : (o : Option Fault) → Each (FitFault 28) o → Each PlainFault (option_map kept_error o)
    by None fits = tt
    by (Some f) fits = fault_plain f fits

bare_plain : (s : DeliveryState) → PlainParts s → PlainParts (bare s)
bare_plain (state.Received r) plain = tt
bare_plain (state.Other v) plain = tt
bare_plain state.Accepted plain = tt
bare_plain state.Released plain = tt
bare_plain (state.Modified m) plain = tt
bare_plain (state.Rejected r) plain = by r.error plain
  where
    by : (o : Option Fault) → Each PlainFault o → Each PlainFault (option_map without_info o)
    by None plain = tt
    by (Some f) plain = record { condition = plain.condition; description = plain.description; info = tt }

pick : (P : DeliveryState → Type 0) (q : Bool) (x y : DeliveryState) → P x → P y → P (if q then x else y)
pick P true x y one other = one
pick P false x y one other = other

undescribed_ends : (s : DeliveryState) → IsTerminal s → IsTerminal (undescribed s)
undescribed_ends (state.Received r) ends = ends
undescribed_ends (state.Other v) ends = ends
undescribed_ends state.Accepted ends = tt
undescribed_ends state.Released ends = tt
undescribed_ends (state.Modified m) ends = tt
undescribed_ends (state.Rejected r) ends = tt

bare_ends : (s : DeliveryState) → IsTerminal s → IsTerminal (bare s)
bare_ends (state.Received r) ends = ends
bare_ends (state.Other v) ends = ends
bare_ends state.Accepted ends = tt
bare_ends state.Released ends = tt
bare_ends (state.Modified m) ends = tt
bare_ends (state.Rejected r) ends = tt

kept_plain : (s : DeliveryState) → FitParts 28 s → PlainParts (kept_outcome s)
kept_plain s fits =
    let u : DeliveryState = undescribed s in
    let plain = undescribed_plain s fits in
    pick PlainParts (nat_lt 400 (length (state_spelling u))) (bare u) u (bare_plain u plain) plain

kept_ends : (s : DeliveryState) → IsTerminal s → IsTerminal (kept_outcome s)
kept_ends s ends =
    let u : DeliveryState = undescribed s in
    let same = undescribed_ends s ends in
    pick IsTerminal (nat_lt 400 (length (state_spelling u))) (bare u) u (bare_ends u same) same

is_terminal : (s : DeliveryState) → IsTerminal s → is_some (terminal (Some s)) ≡ true
is_terminal (state.Received r) ends = absurd ends
is_terminal (state.Other v) ends = absurd ends
is_terminal state.Accepted ends = refl
is_terminal state.Released ends = refl
is_terminal (state.Modified m) ends = refl
is_terminal (state.Rejected r) ends = refl

pub kept_itself : (s : DeliveryState) → IsTerminal s → FitsState 32 s → length (state_spelling s) ≤ 400 → journal_outcome s ≡ s
kept_itself s ends fits few = ap (λ (o : Option DeliveryState). unwrap_or o failed) (keeps_itself s (is_outcome s ends fits) few)

pub sendable_kept : (s : DeliveryState) → IsSendable s → IsKeptAsTold s
sendable_kept s sent =
    let few = kept_len s (is_terminal s sent.terminal) in
    let ends = kept_ends s sent.terminal in
    let parts = perf_fits sent.body s sent.encoded.bytes sent.terminal sent.encoded.spelled (all_bytes sent.encoded.bytes sent.encoded.are_bytes) sent.gives in
    kept_itself (kept_outcome s) ends (plain_fits (kept_outcome s) ends (kept_plain s parts) few) few
