-- The lengths of outcomes as the router keeps them, and of the frames that report them.
use Rattle.std.proofs.Common.{◌≡◌, ◌≤◌, ℕ, ◌+◌, Bool, true, false, true≢false, List, [], ◌∷◌, ◌++◌, length, length-append, Option, Some, None, refl, sym, arith}
use Rattle.std.specs.Prelude.{◌==◌, nat_lt, is_some, option_map}
use Rattle.std.specs.Int.{w32, to_be_bytes}
use Rattle.amqp_model.specs.declared.code.Kind.TheVariants as kind
use Rattle.amqp_model.specs.Data as d
use Rattle.amqp_model.specs.ValueSpelling.{constructed, piece_by, spelling as value_spelling}
use Rattle.amqp_model.specs.declared.descriptor.Descriptor.{Descriptor}
use Rattle.amqp_model.specs.declared.descriptor.Descriptor.TheVariants as is
use Rattle.amqp_model.specs.declared.perf.Perf.{Perf}
use Rattle.amqp_model.specs.declared.perf.Perf.TheVariants as perf
use Rattle.amqp_model.specs.declared.perf.Role.{Role}
use Rattle.amqp_model.specs.declared.perf.Role.TheVariants.{Sender, Receiver}
use Rattle.amqp_model.specs.declared.state.DeliveryState.{DeliveryState}
use Rattle.amqp_model.specs.declared.state.DeliveryState.TheVariants as state
use Rattle.amqp_model.specs.declared.state.Fault.{Fault}
use Rattle.amqp_model.specs.declared.state.Modified.{Modified}
use Rattle.amqp_model.specs.Texts.{FieldText, given, given_by, field_bytes, joined, described_text, spelt, flag_text}
use Rattle.amqp_model.specs.PerfSpelling.{spelling, state_spelling, role_text}
use Rattle.amqp_model.specs.ItemSpelling.{item_spelling}
use Rattle.router_trace.specs.Deliveries.{terminal}
use Rattle.router_trace.specs.DeliveryFrames.{kept_condition, kept_error, without_info, undescribed, bare, unless_long, kept_outcome, outcome_item}
use Rattle.router_trace.specs.Frames.{frame_on}
use Rattle.reply_frames.proofs.Fullness.{pick}
use Rattle.reply_frames.proofs.Longer.{list_size, is_small, counted}
use Rattle.reply_frames.proofs.Small.{number_len, flag_len}

-- fields without their trailing nulls have no more bytes
given_by_len : (f : FieldText) (fs gs : List FieldText) → length (joined fs) ≤ length (joined gs) → length (joined (given_by f fs)) ≤ length (joined (f ∷ gs))
given_by_len None [] gs le = omega arith
given_by_len None (f ∷ fs) gs le = omega (arith, le)
given_by_len (Some t) fs gs le = omega (arith, le, length-append t (joined fs), length-append t (joined gs))

given_len : (fs : List FieldText) → length (joined (given fs)) ≤ length (joined fs)
unfolding given
given_len [] = omega arith
given_len (f ∷ fs) = given_by_len f (given fs) fs (given_len fs)

size_len : (nothing small : Bool) (len : ℕ) → list_size nothing small len ≤ 9 + len
size_len true small len = omega arith
size_len false true len = omega arith
size_len false false len = omega arith

pub described_len : (name : Descriptor) (fs : List FieldText) → length (described_text name fs) ≤ 12 + length (joined fs)
unfolding described_text
described_len name fs =
    let gs = given fs in
    omega (arith, given_len fs, counted (length gs == 0) (length gs) (joined gs), size_len (length gs == 0) (is_small (length gs) (length (joined gs))) (length (joined gs)))

-- a condition
symbol_by : (small : Bool) (bytes : List ℕ) → length (constructed kind.Symbol (piece_by small (length bytes ∷ bytes) (to_be_bytes w32 (length bytes) ++ bytes))) ≤ 5 + length bytes
symbol_by true bytes = omega arith
symbol_by false bytes = omega arith

symbol_len : (bytes : List ℕ) → length (value_spelling (d.symbol bytes)) ≤ 5 + length bytes
unfolding value_spelling
symbol_len bytes = symbol_by (nat_lt (length bytes) 256) bytes

not_above : (len most : ℕ) → nat_lt most len ≡ false → len ≤ most
not_above len most h = grind (arith, h)

condition_len : (text : List ℕ) → length (kept_condition text) ≤ 128
condition_len text = pick (λ (t : List ℕ). length t ≤ 128) (nat_lt 128 (length text)) _ _ (λ e. omega arith) (λ e. not_above (length text) 128 e)

-- what an error adds to an outcome
error_len : (f : Fault) → length (described_text is.Error (spelt (d.symbol (kept_condition f.condition)) ∷ None ∷ None ∷ [])) ≤ 147
error_len f =
    let text = value_spelling (d.symbol (kept_condition f.condition)) in
    omega (arith, described_len is.Error (Some text ∷ None ∷ None ∷ []), symbol_len (kept_condition f.condition), condition_len f.condition, length-append text (0x40 ∷ 0x40 ∷ []))

rejected_len : (e : Option Fault) → length (state_spelling (state.Rejected (record { error = option_map without_info (option_map kept_error e) }))) ≤ 400
unfolding state_spelling
rejected_len None = omega (arith, described_len is.Rejected (None ∷ []))
rejected_len (Some f) =
    let text = described_text is.Error (spelt (d.symbol (kept_condition f.condition)) ∷ None ∷ None ∷ []) in
    omega (arith, described_len is.Rejected (Some text ∷ []), error_len f, length-append text [])

modified_len : (m : Modified) → length (state_spelling (state.Modified (record m { message_annotations = None }))) ≤ 400
unfolding state_spelling
modified_len m =
    let one = flag_text m.delivery_failed in
    let other = flag_text m.undeliverable_here in
    omega (arith, described_len is.Modified (one ∷ other ∷ None ∷ []), flag_len m.delivery_failed, flag_len m.undeliverable_here, length-append (field_bytes one) (field_bytes other ++ (0x40 ∷ [])), length-append (field_bytes other) (0x40 ∷ []))

unless_len : (s : DeliveryState) → length (state_spelling (bare s)) ≤ 400 → length (state_spelling (unless_long s)) ≤ 400
unless_len s le = pick (λ x. length (state_spelling x) ≤ 400) (nat_lt 400 (length (state_spelling s))) _ _ (λ e. le) (λ e. not_above (length (state_spelling s)) 400 e)

plain_len : (name : Descriptor) → length (described_text name []) ≤ 400
plain_len name = omega (arith, described_len name [])

accepted_len : length (state_spelling state.Accepted) ≤ 400
unfolding state_spelling
accepted_len = plain_len is.Accepted

released_len : length (state_spelling state.Released) ≤ 400
unfolding state_spelling
released_len = plain_len is.Released

pub kept_len : (s : DeliveryState) → is_some (terminal (Some s)) ≡ true → length (state_spelling (kept_outcome s)) ≤ 400
kept_len (state.Received r) h = absurd (true≢false (sym h))
kept_len state.Accepted h = unless_len state.Accepted accepted_len
kept_len (state.Rejected r) h = unless_len (undescribed (state.Rejected r)) (rejected_len r.error)
kept_len state.Released h = unless_len state.Released released_len
kept_len (state.Modified m) h = unless_len (state.Modified m) (modified_len m)
kept_len (state.Other v) h = absurd (true≢false (sym h))

role_by : (b : Bool) → length (value_spelling (d.boolean b)) ≡ 1
unfolding value_spelling
role_by true = refl
role_by false = refl

role_len : (role : Role) → length (field_bytes (role_text role)) ≡ 1
role_len Sender = role_by false
role_len Receiver = role_by true

disposition_joined : (r f s o : List ℕ) → length r ≡ 1 → length f ≤ 5 → length s ≡ 1 → length o ≤ 400 → length (r ++ (f ++ (0x40 ∷ (s ++ (o ++ (0x40 ∷ [])))))) ≤ 409
disposition_joined r f s o lr lf ls lo =
    omega (arith, lr, lf, ls, lo, length-append r (f ++ (0x40 ∷ (s ++ (o ++ (0x40 ∷ []))))), length-append f (0x40 ∷ (s ++ (o ++ (0x40 ∷ [])))), length-append s (o ++ (0x40 ∷ [])), length-append o (0x40 ∷ []))

disposition_len : (role : Role) (id : ℕ) (settled : Bool) (s : DeliveryState) → length (state_spelling s) ≤ 400
    → length (spelling (perf.Disposition (record { role = role; first = id; last = None; settled = settled; state = Some s; batchable = false }))) ≤ 421
unfolding spelling
disposition_len role id settled s le =
    let all = described_len is.Disposition (role_text role ∷ spelt (d.uint id) ∷ None ∷ flag_text settled ∷ Some (state_spelling s) ∷ None ∷ []) in
    omega (arith, all, disposition_joined (field_bytes (role_text role)) (value_spelling (d.uint id)) (field_bytes (flag_text settled)) (state_spelling s) (role_len role) (number_len id) (flag_len settled) le)

frame_on_len : (own : ℕ) (p : Perf) → length (item_spelling (frame_on own p)) ≡ 8 + length (spelling p)
unfolding item_spelling
frame_on_len own p = omega (arith, length-append (spelling p) [])

pub outcome_frame_len : (own id : ℕ) (role : Role) (settled : Bool) (s : DeliveryState) → is_some (terminal (Some s)) ≡ true → length (item_spelling (outcome_item own role id settled s)) ≤ 429
outcome_frame_len own id role settled s h =
    let body : Perf = perf.Disposition (record { role = role; first = id; last = None; settled = settled; state = Some (kept_outcome s); batchable = false }) in
    omega (arith, frame_on_len own body, disposition_len role id settled (kept_outcome s) (kept_len s h))
