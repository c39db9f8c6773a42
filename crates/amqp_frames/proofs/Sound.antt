-- What is found is encoded there.
use Rattle.std.proofs.Common.{◌≡◌, ℕ, ◌+◌, ◌-◌, ◌*◌, ◌<◌, ◌≤◌, List, [], ◌∷◌, ◌++◌, length, take, drop, refl, sym, ap, ◌∙◌, subst, arith, ◌⊎◌, inl, inr, Result, Ok, Err, Bool, true, false, not, ◌&&◌, ◌||◌, if◌then◌else◌}
use Rattle.std.proofs.lemmas.Grind.{common_steps}
use Rattle.std.proofs.lemmas.List.{take-append-drop}
use Rattle.std.proofs.Math.Seq.{drop-append-add}
use Rattle.std.specs.Prelude.{◌==◌, nat_lt}
use Rattle.std.specs.Int.{w16, from_be_bytes}
use Rattle.amqp_model.specs.declared.perf.Perf.{Perf}
use Rattle.amqp_model.specs.declared.perf_fault.PerfFault.{PerfFault}
use Rattle.amqp_model.specs.declared.perf_fault.PerfFault.TheVariants as perf_fault
use Rattle.amqp_perf.specs.Performative.{performative}
use Rattle.amqp_frames.specs.declared.extent.Extent.{Extent}
use Rattle.amqp_frames.specs.declared.extent.Extent.TheVariants.{Unknown, Whole, Wrong}
use Rattle.amqp_model.specs.declared.frame_fault.FrameFault.{FrameFault}
use Rattle.amqp_model.specs.declared.frame_fault.FrameFault.TheVariants as fault
use Rattle.amqp_model.specs.declared.item.Item.{Item}
use Rattle.amqp_model.specs.declared.item.Item.TheVariants as item
use Rattle.amqp_frames.specs.Extents.{begins_header, typed, placed, sized, extent}
use Rattle.amqp_frames.specs.Frames.{more, found, wrong, front, frame, filled, item_of, of_item, is_empty, may_carry}
use Rattle.amqp_frames.specs.SpellsItem.{IsFrame, SpellsItem}
use Rattle.amqp_frames.proofs.Complete.{IsItem, code, limit}
use Rattle.amqp_frames.proofs.Fronts.{front_unknown, front_wrong, front_whole, long_enough}
use Rattle.amqp_frames.proofs.Sizes.{number, extent_stays, extent_at_least, unknown_below, past_wrong, same_size}

empty_is : (body : List ℕ) → is_empty body ≡ true → body ≡ []
empty_is [] h = refl
empty_is (b ∷ body) h = absurd (let bad : false ≡ true = h in cc)

abbrev answers : Item → Result Item FrameFault
answers x = Ok x

-- a heartbeat
beat_by : (sasl : Bool) (channel : ℕ) (body text : List ℕ) (x : Item) → IsFrame sasl channel body text → (is_empty body && not sasl) ≡ true → answers (item.Beat channel) ≡ answers x → SpellsItem text x
beat_by true channel [] text x is beat h = absurd (let bad : false ≡ true = beat in cc)
beat_by true channel (b ∷ body) text x is beat h = absurd (let bad : false ≡ true = beat in cc)
beat_by false channel [] text x is beat h = let same : item.Beat channel ≡ x = cc in rw (← same) is
beat_by false channel (b ∷ body) text x is beat h = absurd (let bad : false ≡ true = beat in cc)

some_body : (sasl : Bool) (body : List ℕ) → (is_empty body && not sasl) ≡ false → (sasl ≡ true) ⊎ (0 < length body)
some_body true body h = inl refl
some_body false [] h = absurd (let bad : true ≡ false = h in cc)
some_body false (b ∷ body) h = inr (omega arith)

filled_by : (sasl : Bool) (channel : ℕ) (body text : List ℕ) (x : Item) (p : Perf) (at : ℕ) (carries none : Bool) → IsFrame sasl channel body text → (is_empty body && not sasl) ≡ false
    → performative body ≡ Ok (p, at) → may_carry p ≡ carries → is_empty (drop at body) ≡ none
    → (if may_carry p || is_empty (drop at body) then Ok (item.Frame sasl channel p (drop at body)) else Err (fault.Perf perf_fault.NotPerformative)) ≡ Ok x → SpellsItem text x
filled_by sasl channel body text x p at true none is beat reads may empty h =
    let read : Ok (item.Frame sasl channel p (drop at body)) ≡ Ok x = rw may at h in
    let same : item.Frame sasl channel p (drop at body) ≡ x = cc in
    rw (← same) (body, at, is, reads, refl, some_body sasl body beat, inl may)
filled_by sasl channel body text x p at false true is beat reads may empty h =
    let read : Ok (item.Frame sasl channel p (drop at body)) ≡ Ok x = rw (may, empty) at h in
    let same : item.Frame sasl channel p (drop at body) ≡ x = cc in
    rw (← same) (body, at, is, reads, refl, some_body sasl body beat, inr (empty_is (drop at body) empty))
filled_by sasl channel body text x p at false false is beat reads may empty h =
    let bad : Err (fault.Perf perf_fault.NotPerformative) ≡ Ok x = rw (may, empty) at h in absurd cc

-- an item, its type and the place of its body
frame_by : (sasl : Bool) (channel : ℕ) (body text : List ℕ) (x : Item) (beat : Bool) (read : Result (Perf × ℕ) PerfFault) → IsFrame sasl channel body text
    → (is_empty body && not sasl) ≡ beat → performative body ≡ read → (if beat then Ok (item.Beat channel) else filled sasl channel body read) ≡ Ok x → SpellsItem text x
frame_by sasl channel body text x true read is beat reads h = beat_by sasl channel body text x is beat h
frame_by sasl channel body text x false (Err e) is beat reads h = absurd (let bad : Err (fault.Perf e) ≡ Ok x = h in cc)
frame_by sasl channel body text x false (Ok (p, at)) is beat reads h = filled_by sasl channel body text x p at (may_carry p) (is_empty (drop at body)) is beat reads refl refl h

pub frame_sound : (sasl : Bool) (channel : ℕ) (body text : List ℕ) (x : Item) → IsFrame sasl channel body text → frame sasl channel body ≡ Ok x → SpellsItem text x
frame_sound sasl channel body text x is h = frame_by sasl channel body text x (is_empty body && not sasl) (performative body) is refl refl h

-- what a known size means for the bytes before it
pub record IsPlaced (size offset kind : ℕ) : Type 0 where
  pub low : 2 ≤ offset
  pub high : 4 * offset ≤ size
  pub known : kind ≤ 1
  pub within : size ≤ 16384
  pub within_sasl : kind ≡ 1 → size ≤ 512

neither : (s t : Bool) → (s || t) ≡ false → (s ≡ false) × (t ≡ false)
neither true t h = absurd (let bad : true ≡ false = h in cc)
neither false t h = (refl, h)

not_both : (s t : Bool) → (s && t) ≡ false → s ≡ true → t ≡ false
not_both true t h is = h
not_both false t h is = absurd (let bad : false ≡ true = is in cc)

placed_is : (size n offset kind : ℕ) (rest : List ℕ) → sized size (offset ∷ kind ∷ rest) ≡ Whole n → (size ≡ n) × IsPlaced size offset kind
placed_is size n offset kind rest h =
    let small = past_wrong (nat_lt size 8) fault.TooSmall (if nat_lt 16384 size then Wrong fault.TooLarge else placed size (offset ∷ kind ∷ rest)) n h in
    let large = past_wrong (nat_lt 16384 size) fault.TooLarge (placed size (offset ∷ kind ∷ rest)) n small.1 in
    let place = past_wrong (nat_lt offset 2 || nat_lt size (4 * offset)) fault.BadOffset (typed size (kind ∷ rest)) n large.1 in
    let sasl : Extent = if (kind == 1) && nat_lt 512 size then Wrong fault.TooLarge else Whole size in
    let kinds = past_wrong (nat_lt 1 kind) fault.BadType sasl n place.1 in
    let sizes = past_wrong ((kind == 1) && nat_lt 512 size) fault.TooLarge (Whole size) n kinds.1 in
    let both = neither (nat_lt offset 2) (nat_lt size (4 * offset)) place.0 in
    let first : nat_lt offset 2 ≡ false = both.0 in
    let second : nat_lt size (4 * offset) ≡ false = both.1 in
    let third : nat_lt 1 kind ≡ false = kinds.0 in
    let fourth : nat_lt 16384 size ≡ false = large.0 in (
      same_size size n sizes.1,
      record {
        low = grind arith;
        high = grind arith;
        known = grind arith;
        within = grind arith;
        within_sasl = λ (one : kind ≡ 1). (let test : (kind == 1) ≡ true = rw one refl in let fifth : nat_lt 512 size ≡ false = not_both (kind == 1) (nat_lt 512 size) sizes.0 test in let g : size ≤ 512 = grind arith in g);
      },
    )

-- of eight bytes and more: the first four are `AMQP`
header_bytes : (a b c d : ℕ) → begins_header a b c d ≡ true → (a ≡ 65) × (b ≡ 77) × (c ≡ 81) × (d ≡ 80)
header_bytes a b c d h = (grind arith, grind arith, grind arith, grind arith)

header_text : (a b c d e f g h : ℕ) (rest : List ℕ) → begins_header a b c d ≡ true → length (a ∷ b ∷ c ∷ d ∷ e ∷ f ∷ g ∷ h ∷ rest) ≡ 8 → SpellsItem (a ∷ b ∷ c ∷ d ∷ e ∷ f ∷ g ∷ h ∷ rest) (item.Header e f g h)
header_text a b c d e f g h [] is exact = let bytes = header_bytes a b c d is in rw (bytes.0, bytes.1, bytes.2, bytes.3) refl
header_text a b c d e f g h (i ∷ rest) is exact = absurd (omega arith)

limit_of : (sasl : Bool) (size offset : ℕ) → IsPlaced size offset (code sasl) → size ≤ limit sasl
limit_of true size offset is = is.within_sasl refl
limit_of false size offset is = is.within

drop_past : (first rest : List ℕ) (m n : ℕ) → m ≡ length first + n → drop m (first ++ rest) ≡ drop n rest
drop_past first rest m n h = rw h (drop-append-add first rest n)

-- of others: a frame
framed : (sasl : Bool) (a b c d e g h : ℕ) (rest : List ℕ) → number a b c d ≡ length (a ∷ b ∷ c ∷ d ∷ e ∷ code sasl ∷ g ∷ h ∷ rest) → IsPlaced (number a b c d) e (code sasl)
    → IsFrame sasl (if sasl then 0 else from_be_bytes w16 (g ∷ h ∷ [])) (drop (4 * e) (a ∷ b ∷ c ∷ d ∷ e ∷ code sasl ∷ g ∷ h ∷ rest)) (a ∷ b ∷ c ∷ d ∷ e ∷ code sasl ∷ g ∷ h ∷ rest)
framed sasl a b c d e g h rest counts is =
    let first : List ℕ = a ∷ b ∷ c ∷ d ∷ e ∷ code sasl ∷ g ∷ h ∷ [] in
    let n : ℕ = 4 * e - 8 in
    let low : 2 ≤ e = is.low in
    let high : 4 * e ≤ number a b c d = is.high in
    let words : 4 * e ≡ 8 + n = omega arith in
    let all : length (first ++ rest) ≡ 8 + length rest = grind (arith, common_steps) in
    let enough : n ≤ length rest = omega (arith, counts) in
    let len : length (take n rest) ≡ n = grind (arith, common_steps) in
    let body : drop (4 * e) (first ++ rest) ≡ drop n rest = drop_past first rest (4 * e) n words in
    let split : take n rest ++ drop n rest ≡ rest = take-append-drop n rest in
    record {
      size = a ∷ b ∷ c ∷ d ∷ [];
      offset = e;
      numbered = g ∷ h ∷ [];
      extended = take n rest;
      spelt = rw (body, split) refl;
      size_field = refl;
      counts = counts;
      words = words ∙ (rw len refl);
      channel_field = refl;
      numbers = refl;
      within = subst (λ (m : ℕ). m ≤ limit sasl) counts (limit_of sasl (number a b c d) e is);
    }

kind_at : (sasl : Bool) (a b c d e f g h : ℕ) (rest : List ℕ) (x : Item) → f ≡ code sasl → number a b c d ≡ length (a ∷ b ∷ c ∷ d ∷ e ∷ f ∷ g ∷ h ∷ rest) → IsPlaced (number a b c d) e f
    → frame sasl (if sasl then 0 else from_be_bytes w16 (g ∷ h ∷ [])) (drop (4 * e) (a ∷ b ∷ c ∷ d ∷ e ∷ code sasl ∷ g ∷ h ∷ rest)) ≡ Ok x → SpellsItem (a ∷ b ∷ c ∷ d ∷ e ∷ f ∷ g ∷ h ∷ rest) x
kind_at sasl a b c d e f g h rest x is counts place reads =
    let text : List ℕ = a ∷ b ∷ c ∷ d ∷ e ∷ code sasl ∷ g ∷ h ∷ rest in
    rw is (frame_sound sasl (if sasl then 0 else from_be_bytes w16 (g ∷ h ∷ [])) (drop (4 * e) text) text x (framed sasl a b c d e g h rest counts (rw is at place)) reads)

-- a frame's type is one of two
kind_by : (a b c d e f g h : ℕ) (rest : List ℕ) (x : Item) → (f ≡ 1) ⊎ (f ≡ 0) → number a b c d ≡ length (a ∷ b ∷ c ∷ d ∷ e ∷ f ∷ g ∷ h ∷ rest) → IsPlaced (number a b c d) e f
    → (if f == 1 then frame true 0 (drop (4 * e) (a ∷ b ∷ c ∷ d ∷ e ∷ f ∷ g ∷ h ∷ rest)) else frame false (g * 256 + h) (drop (4 * e) (a ∷ b ∷ c ∷ d ∷ e ∷ f ∷ g ∷ h ∷ rest))) ≡ Ok x
    → SpellsItem (a ∷ b ∷ c ∷ d ∷ e ∷ f ∷ g ∷ h ∷ rest) x
kind_by a b c d e f g h rest x (inl one) counts is reads = kind_at true a b c d e f g h rest x one counts is (rw one at reads)
kind_by a b c d e f g h rest x (inr none) counts is reads = kind_at false a b c d e f g h rest x none counts is (rw none at reads)

eight_sound : (t : Bool) (a b c d e f g h : ℕ) (rest : List ℕ) (x : Item) → begins_header a b c d ≡ t → IsItem (a ∷ b ∷ c ∷ d ∷ e ∷ f ∷ g ∷ h ∷ rest) x → SpellsItem (a ∷ b ∷ c ∷ d ∷ e ∷ f ∷ g ∷ h ∷ rest) x
unfolding extent item_of
eight_sound true a b c d e f g h rest x t is =
    let whole : Whole 8 ≡ Whole (length (a ∷ b ∷ c ∷ d ∷ e ∷ f ∷ g ∷ h ∷ rest)) = rw t at is.whole in
    let reads : answers (item.Header e f g h) ≡ answers x = rw t at is.reads in
    let same : item.Header e f g h ≡ x = cc in
    rw (← same) (header_text a b c d e f g h rest t (sym (same_size _ _ whole)))
eight_sound false a b c d e f g h rest x t is =
    let whole : sized (number a b c d) (e ∷ f ∷ g ∷ h ∷ rest) ≡ Whole (length (a ∷ b ∷ c ∷ d ∷ e ∷ f ∷ g ∷ h ∷ rest)) = rw t at is.whole in
    let placed = placed_is (number a b c d) _ e f (g ∷ h ∷ rest) whole in
    let one : f ≤ 1 = placed.1.known in
    kind_by a b c d e f g h rest x (grind arith) placed.0 placed.1 (rw t at is.reads)

-- an item is encoded
pub item_spelt : (text : List ℕ) (x : Item) → IsItem text x → SpellsItem text x
item_spelt [] x is = let least = extent_at_least [] _ is.whole in absurd (omega arith)
item_spelt (a ∷ []) x is = let least = extent_at_least (a ∷ []) _ is.whole in absurd (omega arith)
item_spelt (a ∷ b ∷ []) x is = let least = extent_at_least (a ∷ b ∷ []) _ is.whole in absurd (omega arith)
item_spelt (a ∷ b ∷ c ∷ []) x is = let least = extent_at_least (a ∷ b ∷ c ∷ []) _ is.whole in absurd (omega arith)
item_spelt (a ∷ b ∷ c ∷ d ∷ []) x is = let least = extent_at_least (a ∷ b ∷ c ∷ d ∷ []) _ is.whole in absurd (omega arith)
item_spelt (a ∷ b ∷ c ∷ d ∷ e ∷ []) x is = let least = extent_at_least (a ∷ b ∷ c ∷ d ∷ e ∷ []) _ is.whole in absurd (omega arith)
item_spelt (a ∷ b ∷ c ∷ d ∷ e ∷ f ∷ []) x is = let least = extent_at_least (a ∷ b ∷ c ∷ d ∷ e ∷ f ∷ []) _ is.whole in absurd (omega arith)
item_spelt (a ∷ b ∷ c ∷ d ∷ e ∷ f ∷ g ∷ []) x is = let least = extent_at_least (a ∷ b ∷ c ∷ d ∷ e ∷ f ∷ g ∷ []) _ is.whole in absurd (omega arith)
item_spelt (a ∷ b ∷ c ∷ d ∷ e ∷ f ∷ g ∷ h ∷ rest) x is = eight_sound (begins_header a b c d) a b c d e f g h rest x refl is

read_ok : (after : List ℕ) (read : Result Item FrameFault) (x : Item) (rest : List ℕ) → of_item after read ≡ found x rest → (read ≡ answers x) × (after ≡ rest)
read_ok after (Ok y) x rest h = (let same : y ≡ x = cc in ap answers same, cc)
read_ok after (Err f) x rest h = absurd (let bad : wrong f ≡ found x rest = h in cc)

told_text : (text behind bytes : List ℕ) (size : ℕ) → (extent text ≡ Unknown) ⊎ (extent (text ++ behind) ≡ extent text) → text ++ behind ≡ bytes → 6 ≤ length text → extent bytes ≡ Whole size → extent text ≡ Whole size
told_text text behind bytes size (inl unknown) split enough is = let few = unknown_below text unknown in absurd (omega arith)
told_text text behind bytes size (inr same) split enough is = sym same ∙ ap extent split ∙ is

-- what is found at the front is an item, and the bytes after it
found_by : (e : Extent) (bytes : List ℕ) (x : Item) (after : List ℕ) → extent bytes ≡ e → front bytes ≡ found x after → (text : List ℕ) × (bytes ≡ text ++ after) × IsItem text x
found_by Unknown bytes x after h is = absurd (let bad : more ≡ found x after = sym (front_unknown bytes h) ∙ is in cc)
found_by (Wrong f) bytes x after h is = absurd (let bad : wrong f ≡ found x after = sym (front_wrong bytes f h) ∙ is in cc)
found_by (Whole size) bytes x after h is =
    let long : size ≤ length bytes = long_enough (nat_lt (length bytes) size) bytes size x after refl h is in
    let read = read_ok (drop size bytes) (item_of (take size bytes)) x after (sym (front_whole bytes size h long) ∙ is) in
    let split : take size bytes ++ drop size bytes ≡ bytes = take-append-drop size bytes in
    let len : length (take size bytes) ≡ size = grind (arith, common_steps) in
    let least = extent_at_least bytes size h in (
      take size bytes,
      sym split ∙ ap (λ (l : List ℕ). take size bytes ++ l) read.1,
      record { whole = told_text (take size bytes) (drop size bytes) bytes size (extent_stays (take size bytes) (drop size bytes)) split (omega (arith, len)) h ∙ ap Whole (sym len); reads = read.0 },
    )

pub found_sound : (bytes : List ℕ) (x : Item) (after : List ℕ) → front bytes ≡ found x after → (text : List ℕ) × (bytes ≡ text ++ after) × SpellsItem text x
found_sound bytes x after is = let got = found_by (extent bytes) bytes x after refl is in (got.0, got.1, item_spelt got.0 x got.2)
