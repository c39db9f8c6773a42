-- The lengths of the router's frames without their payload.
use Rattle.std.proofs.Common.{◌≡◌, ◌≤◌, ℕ, ◌+◌, Bool, true, false, true≢false, List, [], ◌∷◌, ◌++◌, length, length-append, Some, None, refl, sym, ap, subst, arith}
use Rattle.std.specs.Prelude.{◌==◌, ◌||◌, nat_lt, if◌then◌else◌}
use Rattle.std.specs.Int.{w32, to_be_bytes}
use Rattle.amqp_model.specs.declared.code.Kind.TheVariants as kind
use Rattle.amqp_model.specs.Data as d
use Rattle.amqp_model.specs.ValueSpelling.{constructed, piece_by, spelling as value_spelling}
use Rattle.amqp_model.specs.declared.descriptor.Descriptor.TheVariants as is
use Rattle.amqp_model.specs.declared.perf.Perf.TheVariants as perf
use Rattle.amqp_model.specs.declared.perf.Transfer.{Transfer}
use Rattle.amqp_model.specs.Texts.{FieldText, given, field_bytes, joined, described_text, flag_text}
use Rattle.amqp_model.specs.PerfSpelling.{spelling}
use Rattle.amqp_model.specs.ItemSpelling.{item_spelling}
use Rattle.amqp_model.specs.Room.{transfer_frame}
use Rattle.router_trace.specs.declared.binding.DeliveryName.{DeliveryName}
use Rattle.router_trace.specs.declared.binding.DeliveryName.TheVariants.{Row, Counter}
use Rattle.router_trace.specs.Deliveries.{Delivery, settles, tag_of}
use Rattle.router_trace.specs.DeliveryFrames.{outcome_if, first_transfer, later_transfer, with_more}
use Rattle.reply_frames.specs.Resumption.{beside_as, beside_of}
use Rattle.reply_frames.proofs.Longer.{list_size, is_small, counted, stays_small, said_true, frame_len}

number_by : (zero small : Bool) (n : ℕ) → length (if zero then 0x43 ∷ [] else constructed kind.Uint (piece_by small (n ∷ []) (to_be_bytes w32 n))) ≤ 5
number_by true small n = omega arith
number_by false true n = omega arith
number_by false false n = omega arith

pub number_len : (n : ℕ) → length (value_spelling (d.uint n)) ≤ 5
unfolding value_spelling
number_len n = number_by (n == 0) (nat_lt n 256) n

pub tag_len : (name : DeliveryName) → length (value_spelling (d.binary (tag_of name))) ≤ 11
unfolding value_spelling
tag_len (Row r) = omega arith
tag_len (Counter k) = omega arith

pub flag_len : (b : Bool) → length (field_bytes (flag_text b)) ≡ 1
flag_len true = ap (λ (t : List ℕ). length t) said_true
flag_len false = refl

size_by : (nothing small : Bool) (len : ℕ) → small ≡ true → list_size nothing small len ≤ 3 + len
size_by true small len is = omega arith
size_by false true len is = omega arith
size_by false false len is = absurd (true≢false (sym is))

-- a few fields of a few bytes
text_len : (fs gs : List FieldText) (most : ℕ) → given fs ≡ gs → length gs ≤ 9 → length (joined gs) ≤ most → most ≤ 254 → length (described_text is.Transfer fs) ≤ 6 + most
unfolding described_text
text_len fs gs most same few short small =
    let tells : is_small (length gs) (length (joined gs)) ≡ true = stays_small (length gs) 9 (length (joined gs)) 254 few (omega (arith, short, small)) refl in
    let size = size_by (length gs == 0) (is_small (length gs) (length (joined gs))) (length (joined gs)) tells in
    let one = counted (length gs == 0) (length gs) (joined gs) in
    rw same (omega (arith, size, one, short))

-- the fields before the nulls
first_given : (a b t c : List ℕ) (flag : FieldText) (m : List ℕ)
    → given (Some a ∷ Some b ∷ Some t ∷ Some c ∷ flag ∷ Some m ∷ None ∷ None ∷ None ∷ None ∷ None ∷ []) ≡ Some a ∷ Some b ∷ Some t ∷ Some c ∷ flag ∷ Some m ∷ []
unfolding given
first_given a b t c None m = refl
first_given a b t c (Some s) m = refl

resumed_given : (a b t c : List ℕ) (flag : FieldText) (m r : List ℕ)
    → given (Some a ∷ Some b ∷ Some t ∷ Some c ∷ flag ∷ Some m ∷ None ∷ None ∷ Some r ∷ None ∷ None ∷ []) ≡ Some a ∷ Some b ∷ Some t ∷ Some c ∷ flag ∷ Some m ∷ None ∷ None ∷ Some r ∷ []
unfolding given
resumed_given a b t c None m r = refl
resumed_given a b t c (Some s) m r = refl

later_given : (a : List ℕ) (flag : FieldText) (m : List ℕ)
    → given (Some a ∷ None ∷ None ∷ None ∷ flag ∷ Some m ∷ None ∷ None ∷ None ∷ None ∷ None ∷ []) ≡ Some a ∷ None ∷ None ∷ None ∷ flag ∷ Some m ∷ []
unfolding given
later_given a None m = refl
later_given a (Some s) m = refl

first_joined : (a b t c f m : List ℕ) → length a ≤ 5 → length b ≤ 5 → length t ≤ 11 → length c ≤ 5 → length f ≡ 1 → length m ≡ 1 → length (a ++ (b ++ (t ++ (c ++ (f ++ (m ++ [])))))) ≤ 28
first_joined a b t c f m la lb lt lc lf lm =
    omega (arith, la, lb, lt, lc, lf, lm, length-append a (b ++ (t ++ (c ++ (f ++ (m ++ []))))), length-append b (t ++ (c ++ (f ++ (m ++ [])))), length-append t (c ++ (f ++ (m ++ []))), length-append c (f ++ (m ++ [])), length-append f (m ++ []), length-append m [])

resumed_joined : (a b t c f m r : List ℕ) → length a ≤ 5 → length b ≤ 5 → length t ≤ 11 → length c ≤ 5 → length f ≡ 1 → length m ≡ 1 → length r ≡ 1
    → length (a ++ (b ++ (t ++ (c ++ (f ++ (m ++ (0x40 ∷ 0x40 ∷ (r ++ [])))))))) ≤ 31
resumed_joined a b t c f m r la lb lt lc lf lm lr =
    let rest = 0x40 ∷ 0x40 ∷ (r ++ []) in
    omega (arith, la, lb, lt, lc, lf, lm, lr, length-append a (b ++ (t ++ (c ++ (f ++ (m ++ rest))))), length-append b (t ++ (c ++ (f ++ (m ++ rest)))), length-append t (c ++ (f ++ (m ++ rest))), length-append c (f ++ (m ++ rest)), length-append f (m ++ rest), length-append m rest, length-append r [])

later_joined : (a f m : List ℕ) → length a ≤ 5 → length f ≡ 1 → length m ≡ 1 → length (a ++ (0x40 ∷ 0x40 ∷ 0x40 ∷ (f ++ (m ++ [])))) ≤ 10
later_joined a f m la lf lm =
    omega (arith, la, lf, lm, length-append a (0x40 ∷ 0x40 ∷ 0x40 ∷ (f ++ (m ++ []))), length-append f (m ++ []), length-append m [])

abbrev more_text : List ℕ
more_text = value_spelling (d.boolean true)

-- the first frame of a delivery that it doesn't settle, whether that is resumed or not
abbrev unsettling : ℕ → ℕ → Delivery → Bool → Bool → Transfer
unsettling handle id b resumed settling = record (with_more (first_transfer handle id b)) { settled = b.presettled || settling; state = outcome_if settling b.outcome; resume = resumed }

abbrev most_spelt : Bool → ℕ
most_spelt true = 37
most_spelt false = 34

spelt_by : (handle id : ℕ) (b : Delivery) (resumed : Bool) → length (spelling (perf.Transfer (unsettling handle id b resumed false))) ≤ most_spelt resumed
unfolding spelling
spelt_by handle id b resumed =
    let one = value_spelling (d.uint handle) in
    let other = value_spelling (d.uint id) in
    let tag = value_spelling (d.binary (tag_of b.name)) in
    let format = value_spelling (d.uint b.format) in
    let flag = flag_text (b.presettled || false) in
    by resumed one other tag format flag
    (first_joined one other tag format (field_bytes flag) more_text (number_len handle) (number_len id) (tag_len b.name) (number_len b.format) (flag_len (b.presettled || false)) (flag_len true))
    (resumed_joined one other tag format (field_bytes flag) more_text more_text (number_len handle) (number_len id) (tag_len b.name) (number_len b.format) (flag_len (b.presettled || false)) (flag_len true) (flag_len true))
  where
    by : (resumed : Bool) (one other tag format : List ℕ) (flag : FieldText)
        → length (one ++ (other ++ (tag ++ (format ++ (field_bytes flag ++ (more_text ++ [])))))) ≤ 28
        → length (one ++ (other ++ (tag ++ (format ++ (field_bytes flag ++ (more_text ++ (0x40 ∷ 0x40 ∷ (more_text ++ [])))))))) ≤ 31
        → length (described_text is.Transfer (Some one ∷ Some other ∷ Some tag ∷ Some format ∷ flag ∷ Some more_text ∷ None ∷ None ∷ flag_text resumed ∷ None ∷ None ∷ [])) ≤ most_spelt resumed
    by false one other tag format flag short long =
        text_len _ (Some one ∷ Some other ∷ Some tag ∷ Some format ∷ flag ∷ Some more_text ∷ []) 28 (first_given one other tag format flag more_text) (omega arith) short (omega arith)
    by true one other tag format flag short long =
        text_len _ (Some one ∷ Some other ∷ Some tag ∷ Some format ∷ flag ∷ Some more_text ∷ None ∷ None ∷ Some more_text ∷ []) 31 (resumed_given one other tag format flag more_text more_text) (omega arith) long (omega arith)

first_spelt : (handle id : ℕ) (b : Delivery) → settles b ≡ false → length (spelling (perf.Transfer (with_more (first_transfer handle id b)))) ≤ most_spelt b.resumed
first_spelt handle id b open_yet =
    subst (λ (settling : Bool). length (spelling (perf.Transfer (unsettling handle id b b.resumed settling))) ≤ most_spelt b.resumed) (sym open_yet) (spelt_by handle id b b.resumed)

later_spelt : (handle : ℕ) (b : Delivery) → length (spelling (perf.Transfer (with_more (later_transfer handle b)))) ≤ 16
unfolding spelling
later_spelt handle b =
    let one = value_spelling (d.uint handle) in
    let flag = flag_text b.presettled in
    text_len _ (Some one ∷ None ∷ None ∷ None ∷ flag ∷ Some more_text ∷ []) 10 (later_given one flag more_text) (omega arith)
    (later_joined one (field_bytes flag) more_text (number_len handle) (flag_len b.presettled) (flag_len true)) (omega arith)

beside_is : (resumed : Bool) → 8 + most_spelt resumed ≡ beside_as resumed
beside_is true = refl
beside_is false = refl

pub first_frame_len : (own handle id : ℕ) (b : Delivery) (payload : List ℕ) → settles b ≡ false
    → length (item_spelling (transfer_frame own (with_more (first_transfer handle id b)) payload)) ≤ beside_of b + length payload
first_frame_len own handle id b payload open_yet =
    omega (arith, first_spelt handle id b open_yet, beside_is b.resumed, frame_len own (with_more (first_transfer handle id b)) payload)

pub later_frame_len : (own handle : ℕ) (b : Delivery) (payload : List ℕ) → length (item_spelling (transfer_frame own (with_more (later_transfer handle b)) payload)) ≤ 24 + length payload
later_frame_len own handle b payload = omega (arith, later_spelt handle b, frame_len own (with_more (later_transfer handle b)) payload)
