-- Bytes that encode an item are found.
use Rattle.std.proofs.Common.{◌≡◌, ℕ, ◌+◌, ◌*◌, ◌<◌, ◌≤◌, List, [], ◌∷◌, ◌++◌, length, drop, refl, sym, ap, ◌∙◌, arith, ◌⊎◌, inl, inr, Ok, Bool, true, false, ◌&&◌, ◌||◌, not, if◌then◌else◌}
use Rattle.std.proofs.lemmas.Grind.{common_steps}
use Rattle.std.proofs.Math.Seq.{drop-append-add, drop-append_seam}
use Rattle.std.specs.Prelude.{nat_lt}
use Rattle.std.specs.Int.{w16, w32, from_be_bytes}
use Rattle.amqp_model.specs.declared.perf.Perf.{Perf}
use Rattle.amqp_perf.specs.Performative.{performative}
use Rattle.amqp_frames.specs.declared.extent.Extent.TheVariants.{Whole}
use Rattle.amqp_model.specs.declared.item.Item.{Item}
use Rattle.amqp_model.specs.declared.item.Item.TheVariants as item
use Rattle.amqp_frames.specs.Extents.{begins_header, typed, extent}
use Rattle.amqp_frames.specs.Frames.{front, found, frame, item_of, is_empty, may_carry}
use Rattle.amqp_frames.specs.SpellsItem.{IsFrame, SpellsItem}
use Rattle.amqp_frames.proofs.Sizes.{number}
use Rattle.amqp_frames.proofs.Steps.{whole_front}

-- bytes that are an item from the first to the last
pub record IsItem (text : List ℕ) (x : Item) : Type 0 where
  pub whole : extent text ≡ Whole (length text)
  pub reads : item_of text ≡ Ok x

four_bytes : (l : List ℕ) → length l ≡ 4 → (a : ℕ) × (b : ℕ) × (c : ℕ) × (d : ℕ) × (l ≡ a ∷ b ∷ c ∷ d ∷ [])
four_bytes [] h = absurd (omega arith)
four_bytes (a ∷ []) h = absurd (omega arith)
four_bytes (a ∷ b ∷ []) h = absurd (omega arith)
four_bytes (a ∷ b ∷ c ∷ []) h = absurd (omega arith)
four_bytes (a ∷ b ∷ c ∷ d ∷ []) h = (a, b, c, d, refl)
four_bytes (a ∷ b ∷ c ∷ d ∷ e ∷ l) h = absurd (omega arith)

two_bytes : (l : List ℕ) → length l ≡ 2 → (g : ℕ) × (h : ℕ) × (l ≡ g ∷ h ∷ [])
two_bytes [] is = absurd (omega arith)
two_bytes (g ∷ []) is = absurd (omega arith)
two_bytes (g ∷ h ∷ []) is = (g, h, refl)
two_bytes (g ∷ h ∷ k ∷ l) is = absurd (omega arith)

-- as a number, `AMQP` is no size of a frame
no_header : (t : Bool) (a b c d : ℕ) → begins_header a b c d ≡ t → number a b c d ≤ 16384 → begins_header a b c d ≡ false
no_header true a b c d is small = absurd (let first : a ≡ 65 = grind arith in let large : 1090519040 ≤ number a b c d = omega arith in omega arith)
no_header false a b c d is small = is

abbrev pub limit : Bool → ℕ
limit sasl = if sasl then 512 else 16384

abbrev pub code : Bool → ℕ
code sasl = if sasl then 1 else 0

pub limit_within : (sasl : Bool) (n : ℕ) → n ≤ limit sasl → n ≤ 16384
limit_within true n h = omega arith
limit_within false n h = h

typed_whole : (sasl : Bool) (size : ℕ) (rest : List ℕ) → size ≤ limit sasl → typed size (code sasl ∷ rest) ≡ Whole size
typed_whole true size rest h = let test : nat_lt 512 size ≡ false = grind arith in rw test refl
typed_whole false size rest h = refl

eight_extent : (sasl : Bool) (a b c d e g h : ℕ) (rest : List ℕ) → 8 ≤ number a b c d → number a b c d ≤ limit sasl → 2 ≤ e → 4 * e ≤ number a b c d
    → extent (a ∷ b ∷ c ∷ d ∷ e ∷ code sasl ∷ g ∷ h ∷ rest) ≡ Whole (number a b c d)
unfolding extent
eight_extent sasl a b c d e g h rest least most low high =
    let within : number a b c d ≤ 16384 = limit_within sasl (number a b c d) most in
    let header : begins_header a b c d ≡ false = no_header (begins_header a b c d) a b c d refl within in
    let small : nat_lt (number a b c d) 8 ≡ false = grind arith in
    let large : nat_lt 16384 (number a b c d) ≡ false = grind arith in
    let two : nat_lt e 2 ≡ false = grind arith in
    let past : nat_lt (number a b c d) (4 * e) ≡ false = grind arith in
    rw (header, small, large, two, past) (typed_whole sasl (number a b c d) (g ∷ h ∷ rest) most)

eight_item : (sasl : Bool) (a b c d e g h : ℕ) (rest : List ℕ) → number a b c d ≤ limit sasl
    → item_of (a ∷ b ∷ c ∷ d ∷ e ∷ code sasl ∷ g ∷ h ∷ rest) ≡ frame sasl (if sasl then 0 else from_be_bytes w16 (g ∷ h ∷ [])) (drop (4 * e) (a ∷ b ∷ c ∷ d ∷ e ∷ code sasl ∷ g ∷ h ∷ rest))
unfolding item_of
eight_item true a b c d e g h rest most = let header : begins_header a b c d ≡ false = no_header (begins_header a b c d) a b c d refl (omega arith) in rw header refl
eight_item false a b c d e g h rest most = let header : begins_header a b c d ≡ false = no_header (begins_header a b c d) a b c d refl most in rw header refl

-- a frame of eight bytes, an extended header and a body
eight_frame : (sasl : Bool) (a b c d e g h : ℕ) (extended body : List ℕ) (x : Item) → number a b c d ≡ length (a ∷ b ∷ c ∷ d ∷ e ∷ code sasl ∷ g ∷ h ∷ (extended ++ body))
    → 4 * e ≡ 8 + length extended → number a b c d ≤ limit sasl → frame sasl (if sasl then 0 else from_be_bytes w16 (g ∷ h ∷ [])) body ≡ Ok x
    → IsItem (a ∷ b ∷ c ∷ d ∷ e ∷ code sasl ∷ g ∷ h ∷ (extended ++ body)) x
eight_frame sasl a b c d e g h extended body x counts words most reads =
    let first : List ℕ = a ∷ b ∷ c ∷ d ∷ e ∷ code sasl ∷ g ∷ h ∷ [] in
    let all : length (a ∷ b ∷ c ∷ d ∷ e ∷ code sasl ∷ g ∷ h ∷ (extended ++ body)) ≡ 8 + (length extended + length body) = grind (arith, common_steps) in
    let behind : drop (4 * e) (first ++ (extended ++ body)) ≡ body = rw words (drop-append-add first (extended ++ body) (length extended) ∙ drop-append_seam extended body) in
    record {
      whole = eight_extent sasl a b c d e g h (extended ++ body) (omega arith) most (omega arith) (omega arith) ∙ ap Whole counts;
      reads = eight_item sasl a b c d e g h (extended ++ body) most ∙ (rw behind reads);
    }

spelt_as : (text size numbered extended body : List ℕ) (a b c d e k g h : ℕ) → text ≡ size ++ (e ∷ k ∷ []) ++ numbered ++ extended ++ body
    → size ≡ a ∷ b ∷ c ∷ d ∷ [] → numbered ≡ g ∷ h ∷ [] → text ≡ a ∷ b ∷ c ∷ d ∷ e ∷ k ∷ g ∷ h ∷ (extended ++ body)
spelt_as text size numbered extended body a b c d e k g h is four two = is ∙ (rw (four, two) refl)

numbers_as : (sasl : Bool) (channel : ℕ) (numbered : List ℕ) (g h : ℕ) → channel ≡ (if sasl then 0 else from_be_bytes w16 numbered) → numbered ≡ g ∷ h ∷ []
    → channel ≡ (if sasl then 0 else from_be_bytes w16 (g ∷ h ∷ []))
numbers_as sasl channel numbered g h is two = is ∙ (rw two refl)

pub frame_complete : (sasl : Bool) (channel : ℕ) (body text : List ℕ) (x : Item) → IsFrame sasl channel body text → frame sasl channel body ≡ Ok x → IsItem text x
frame_complete sasl channel body text x is reads =
    let size = four_bytes is.size is.size_field in
    let two = two_bytes is.numbered is.channel_field in
    let spelt : text ≡ size.0 ∷ size.1 ∷ size.2 ∷ size.3 ∷ is.offset ∷ code sasl ∷ two.0 ∷ two.1 ∷ (is.extended ++ body) = spelt_as text is.size is.numbered is.extended body _ _ _ _ _ _ _ _ is.spelt size.4 two.2 in
    let counts : number size.0 size.1 size.2 size.3 ≡ length text = ap (from_be_bytes w32) (sym size.4) ∙ is.counts in
    let numbers : channel ≡ (if sasl then 0 else from_be_bytes w16 (two.0 ∷ two.1 ∷ [])) = numbers_as sasl channel is.numbered two.0 two.1 is.numbers two.2 in
    let most : number size.0 size.1 size.2 size.3 ≤ limit sasl = rw counts is.within in
    rw spelt (eight_frame sasl size.0 size.1 size.2 size.3 is.offset two.0 two.1 is.extended body x (counts ∙ ap length spelt) is.words most (rw numbers at reads))

-- a whole item stands at the front, whatever follows
pub item_front : (text behind : List ℕ) (x : Item) → IsItem text x → front (text ++ behind) ≡ found x behind
item_front text behind x is =
    whole_front text behind (length text) is.whole (omega arith) (rw is.whole (inl refl)) ∙ (rw is.reads refl)

beat_reads : (channel : ℕ) → frame false channel [] ≡ Ok (item.Beat channel)
beat_reads channel = refl

has_body : (sasl : Bool) (body : List ℕ) → (sasl ≡ true) ⊎ (0 < length body) → (is_empty body && not sasl) ≡ false
has_body true [] h = refl
has_body true (b ∷ body) h = refl
has_body false [] (inl h) = absurd (let bad : false ≡ true = h in cc)
has_body false [] (inr h) = absurd (omega arith)
has_body false (b ∷ body) h = refl

may_have : (carries : Bool) (payload : List ℕ) → (carries ≡ true) ⊎ (payload ≡ []) → (carries || is_empty payload) ≡ true
may_have true payload h = refl
may_have false payload (inl h) = absurd (let bad : false ≡ true = h in cc)
may_have false payload (inr none) = rw none refl

frame_reads : (sasl : Bool) (channel : ℕ) (body : List ℕ) (p : Perf) (at : ℕ) → performative body ≡ Ok (p, at) → (sasl ≡ true) ⊎ (0 < length body)
    → (may_carry p ≡ true) ⊎ (drop at body ≡ []) → frame sasl channel body ≡ Ok (item.Frame sasl channel p (drop at body))
frame_reads sasl channel body p at reads some carries =
    let not_beat : (is_empty body && not sasl) ≡ false = has_body sasl body some in
    let carried : (may_carry p || is_empty (drop at body)) ≡ true = may_have (may_carry p) (drop at body) carries in
    rw (not_beat, reads, carried) refl

header_item : (id major minor revision : ℕ) → IsItem (65 ∷ 77 ∷ 81 ∷ 80 ∷ id ∷ major ∷ minor ∷ revision ∷ []) (item.Header id major minor revision)
unfolding extent item_of
header_item id major minor revision = record { whole = refl; reads = refl }

-- bytes that encode an item are that item
pub spells_item : (text : List ℕ) (x : Item) → SpellsItem text x → IsItem text x
spells_item text (item.Header id major minor revision) is = rw is (header_item id major minor revision)
spells_item text (item.Frame sasl channel p payload) is =
    let reads : frame sasl channel is.0 ≡ Ok (item.Frame sasl channel p (drop is.1 is.0)) = frame_reads sasl channel is.0 p is.1 is.3 is.5 (rw is.4 at is.6) in
    frame_complete sasl channel is.0 text (item.Frame sasl channel p payload) is.2 (rw is.4 reads)
spells_item text (item.Beat channel) is = frame_complete false channel [] text (item.Beat channel) is (beat_reads channel)
spells_item text (item.Bad f) is = absurd is
