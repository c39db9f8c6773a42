-- A transfer that says that more is to come is no shorter than one that doesn't.
use Rattle.std.proofs.Common.{◌≡◌, ◌≤◌, ℕ, ◌+◌, Bool, true, false, List, [], ◌∷◌, ◌++◌, length, length-append, Some, None, true≢false, refl, sym, subst, arith}
use Rattle.std.specs.Prelude.{◌==◌, ◌&&◌, nat_lt, if◌then◌else◌}
use Rattle.amqp_model.specs.declared.code.Kind.TheVariants as kind
use Rattle.amqp_model.specs.Data as d
use Rattle.amqp_model.specs.ValueSpelling.{constructed, compound_piece, piece_by, wide_sizes, list_text, spelling as value_spelling}
use Rattle.amqp_model.specs.declared.descriptor.Descriptor.TheVariants as is
use Rattle.amqp_model.specs.declared.perf.Perf.TheVariants as perf
use Rattle.amqp_model.specs.declared.perf.Transfer.{Transfer}
use Rattle.amqp_model.specs.Texts.{FieldText, given, given_by, field_bytes, joined, described_text, spelt, mapped, flag_text}
use Rattle.amqp_model.specs.PerfSpelling.{spelling, state_text}
use Rattle.amqp_model.specs.ItemSpelling.{item_spelling}
use Rattle.amqp_model.specs.Room.{transfer_frame}
use Rattle.router_trace.specs.DeliveryFrames.{with_more}

-- fields that are not more, and take no more bytes
record NoMore (fs gs : List FieldText) : Type 0 where
  fewer : length fs ≤ length gs
  shorter : length (joined fs) ≤ length (joined gs)

after_same : (f : FieldText) (fs gs : List FieldText) → NoMore fs gs → NoMore (f ∷ fs) (f ∷ gs)
after_same f fs gs h = record {
  fewer = let le = h.fewer in omega (arith, le);
  shorter = let le = h.shorter in omega (arith, le, length-append (field_bytes f) (joined fs), length-append (field_bytes f) (joined gs));
}

nothing_less : (gs : List FieldText) → NoMore [] gs
nothing_less gs = record { fewer = omega arith; shorter = omega arith }

given_after : (f : FieldText) (fs gs : List FieldText) → NoMore fs gs → NoMore (given_by f fs) (given_by f gs)
given_after (Some t) fs gs h = after_same (Some t) fs gs h
given_after None [] gs h = nothing_less (given_by None gs)
given_after None (f ∷ fs) [] h = let le = h.fewer in absurd (omega (arith, le))
given_after None (f ∷ fs) (g ∷ gs) h = after_same None (f ∷ fs) (g ∷ gs) h

given_first : (b : ℕ) (fs : List FieldText) → NoMore (given_by None fs) (given_by (Some (b ∷ [])) fs)
given_first b [] = nothing_less (Some (b ∷ []) ∷ [])
given_first b (f ∷ fs) = record { fewer = omega arith; shorter = omega arith }

-- the same fields but one, which is null or of one byte
one_null : (before behind : List FieldText) (b : ℕ) → NoMore (given (before ++ None ∷ behind)) (given (before ++ Some (b ∷ []) ∷ behind))
unfolding given
one_null [] behind b = given_first b (given behind)
one_null (f ∷ fs) behind b = given_after f (given (fs ++ None ∷ behind)) (given (fs ++ Some (b ∷ []) ∷ behind)) (one_null fs behind b)

-- the length of a list, by the number of its fields and their bytes
abbrev pub list_size : Bool → Bool → ℕ → ℕ
list_size nothing small len = if nothing then 1 else (if small then 3 + len else 9 + len)

abbrev pub is_small : ℕ → ℕ → Bool
is_small n len = nat_lt len 255 && nat_lt n 256

sized : (small : Bool) (n : ℕ) (inside : List ℕ)
    → length (constructed kind.List (piece_by small ((length inside + 1) ∷ n ∷ inside) (wide_sizes n (length inside) ++ inside))) ≡ (if small then 3 + length inside else 9 + length inside)
sized true n inside = omega arith
sized false n inside = omega arith

pub counted : (nothing : Bool) (n : ℕ) (inside : List ℕ)
    → length (if nothing then 0x45 ∷ [] else constructed kind.List (compound_piece n inside)) ≡ list_size nothing (is_small n (length inside)) (length inside)
counted true n inside = refl
counted false n inside = sized (is_small n (length inside)) n inside

both : (a b : Bool) → (a && b) ≡ true → (a ≡ true) × (b ≡ true)
both true b h = (refl, h)
both false b h = absurd (true≢false (sym h))

pub stays_small : (n m len most : ℕ) → n ≤ m → len ≤ most → is_small m most ≡ true → is_small n len ≡ true
stays_small n m len most le shorter h =
    let short : nat_lt most 255 ≡ true = (both (nat_lt most 255) (nat_lt m 256) h).0 in
    let few : nat_lt m 256 ≡ true = (both (nat_lt most 255) (nat_lt m 256) h).1 in
    let s : nat_lt len 255 ≡ true = grind (arith, short, shorter) in
    let f : nat_lt n 256 ≡ true = grind (arith, few, le) in
    rw (s, f) refl

rises : (len most : ℕ) (nothing none small all : Bool) → (none ≡ true → nothing ≡ true) → (all ≡ true → small ≡ true) → len ≤ most → list_size nothing small len ≤ list_size none all most
rises len most true true small all n s le = omega arith
rises len most true false small true n s le = omega arith
rises len most true false small false n s le = omega arith
rises len most false true small all n s le = absurd (true≢false (sym (n refl)))
rises len most false false true true n s le = omega (arith, le)
rises len most false false true false n s le = omega (arith, le)
rises len most false false false true n s le = absurd (true≢false (sym (s refl)))
rises len most false false false false n s le = omega (arith, le)

nothing_below : (n m : ℕ) → n ≤ m → (m == 0) ≡ true → (n == 0) ≡ true
nothing_below n m le h = grind (arith, le, h)

list_no_longer : (fs gs : List FieldText) → NoMore fs gs → length (list_text (length fs) (joined fs)) ≤ length (list_text (length gs) (joined gs))
list_no_longer fs gs h =
    let one = counted (length fs == 0) (length fs) (joined fs) in
    let other = counted (length gs == 0) (length gs) (joined gs) in
    let le = rises (length (joined fs)) (length (joined gs)) (length fs == 0) (length gs == 0) (is_small (length fs) (length (joined fs))) (is_small (length gs) (length (joined gs)))
    (nothing_below (length fs) (length gs) h.fewer) (stays_small (length fs) (length gs) (length (joined fs)) (length (joined gs)) h.fewer h.shorter) h.shorter in
    rw (one, other) le

text_no_longer : (fs gs : List FieldText) → NoMore (given fs) (given gs) → length (described_text is.Transfer fs) ≤ length (described_text is.Transfer gs)
unfolding described_text
text_no_longer fs gs h = let le = list_no_longer (given fs) (given gs) h in omega (arith, le)

pub said_true : value_spelling (d.boolean true) ≡ 0x41 ∷ []
unfolding value_spelling
said_true = refl

abbrev saying : Transfer → Bool → Transfer
saying x more = record x { more = more }

-- the fields of a transfer before `more`, and those after it
abbrev fields_before : Transfer → List FieldText
fields_before x = spelt (d.uint x.handle) ∷ mapped d.uint x.delivery_id ∷ mapped (λ t. d.binary t.items) x.delivery_tag ∷ mapped d.uint x.message_format ∷ flag_text x.settled ∷ []

abbrev fields_after : Transfer → List FieldText
fields_after x = mapped d.ubyte x.rcv_settle_mode ∷ state_text x.state ∷ flag_text x.resume ∷ flag_text x.aborted ∷ flag_text x.batchable ∷ []

abbrev with_flag : Transfer → FieldText → List FieldText
with_flag x more = fields_before x ++ more ∷ fields_after x

no_more_fields : (x : Transfer) → NoMore (given (with_flag x (flag_text false))) (given (with_flag x (flag_text true)))
no_more_fields x = subst (λ text. NoMore (given (with_flag x None)) (given (with_flag x (Some text)))) (sym said_true) (one_null (fields_before x) (fields_after x) 0x41)

spelt_no_longer : (x : Transfer) → length (spelling (perf.Transfer (saying x false))) ≤ length (spelling (perf.Transfer (saying x true)))
unfolding spelling
spelt_no_longer x = text_no_longer (with_flag x (flag_text false)) (with_flag x (flag_text true)) (no_more_fields x)

pub frame_len : (own : ℕ) (x : Transfer) (payload : List ℕ) → length (item_spelling (transfer_frame own x payload)) ≡ 8 + (length (spelling (perf.Transfer x)) + length payload)
unfolding item_spelling
frame_len own x payload = omega (arith, length-append (spelling (perf.Transfer x)) payload)

pub more_is_no_shorter : (own : ℕ) (x : Transfer) (payload : List ℕ) → x.more ≡ false
    → length (item_spelling (transfer_frame own x payload)) ≤ length (item_spelling (transfer_frame own (with_more x) payload))
more_is_no_shorter own x payload last =
    let le = subst (λ more. length (spelling (perf.Transfer (saying x more))) ≤ length (spelling (perf.Transfer (with_more x)))) (sym last) (spelt_no_longer x) in
    omega (arith, le, frame_len own x payload, frame_len own (with_more x) payload)
