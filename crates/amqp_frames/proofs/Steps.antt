-- What a piece makes of the bytes that were gathered.
use Rattle.std.proofs.Common.{◌≡◌, ℕ, ◌<◌, ◌≤◌, List, [], ◌∷◌, ◌++◌, length, take, drop, refl, sym, ap, ◌∙◌, arith, append-nil, ◌⊎◌, inl, inr, Result, Ok, Err, IfOk, Bool, true, false}
use Rattle.std.proofs.lemmas.Grind.{common_steps}
use Rattle.std.proofs.Math.Seq.{take-append_seam}
use Rattle.amqp_frames.specs.declared.extent.Extent.TheVariants.{Unknown, Whole, Wrong}
use Rattle.amqp_model.specs.declared.frame_fault.FrameFault.{FrameFault}
use Rattle.amqp_model.specs.declared.item.Item.{Item}
use Rattle.amqp_model.specs.declared.item.Item.TheVariants as item
use Rattle.amqp_frames.specs.Contract.{IsGathered, loaded}
use Rattle.amqp_frames.specs.Cuts.{Cuts}
use Rattle.amqp_frames.specs.Extents.{extent}
use Rattle.amqp_frames.specs.Frames.{front, more, wrong, of_item, item_of}
use Rattle.amqp_frames.proofs.Fronts.{front_unknown, front_wrong, front_short, front_whole}
use Rattle.amqp_frames.proofs.Sizes.{extent_stays, unknown_short}
use Rattle.amqp_frames.proofs.Streams.{one_more}

pub front_nothing : (bytes : List ℕ) → bytes ≡ [] → front bytes ≡ more
front_nothing bytes none = rw none (front_unknown [] (unknown_short [] (omega arith)))

nothing_behind : (all buffer behind : List ℕ) → buffer ++ behind ≡ all → behind ≡ [] → all ≡ buffer
nothing_behind all buffer behind joined none = sym joined ∙ ap (λ (l : List ℕ). buffer ++ l) none ∙ append-nil buffer

pub cut_unknown : (all buffer behind : List ℕ) (items : List Item) → buffer ++ behind ≡ all → extent buffer ≡ Unknown → IsGathered (extent buffer) buffer behind → items ≡ [] → Cuts false all items buffer
cut_unknown all buffer behind items joined is gathered none =
    let empty : behind ≡ [] = rw is at gathered in
    rw none (nothing_behind all buffer behind joined empty, front_unknown buffer is)

short_of : (buffer behind : List ℕ) (size : ℕ) → length buffer < size → (length buffer ≡ size) ⊎ ((length buffer < size) × (behind ≡ [])) → behind ≡ []
short_of buffer behind size less (inl same) = absurd (omega arith)
short_of buffer behind size less (inr h) = h.1

pub cut_short : (all buffer behind : List ℕ) (size : ℕ) (items : List Item) → buffer ++ behind ≡ all → extent buffer ≡ Whole size → length buffer < size
    → IsGathered (extent buffer) buffer behind → items ≡ [] → Cuts false all items buffer
cut_short all buffer behind size items joined is less gathered none =
    let either : (length buffer ≡ size) ⊎ ((length buffer < size) × (behind ≡ [])) = rw is at gathered in
    rw none (nothing_behind all buffer behind joined (short_of buffer behind size less either), front_short buffer size is less)

ends_in : (all rest : List ℕ) (items : List Item) (f : FrameFault) → items ≡ item.Bad f ∷ [] → rest ≡ all → front all ≡ wrong f → Cuts true all items rest
ends_in all rest items f only same is = ([], f, only, sym same, rw same is)

pub wrong_stays : (buffer behind : List ℕ) (f : FrameFault) → extent buffer ≡ Wrong f → front (buffer ++ behind) ≡ wrong f
wrong_stays buffer behind f is =
    elim (extent_stays buffer behind) [ inl unknown ↦ absurd (let bad : Wrong f ≡ Unknown = sym is ∙ unknown in cc) | inr same ↦ front_wrong (buffer ++ behind) f (same ∙ is) ]

-- the buffer is one item: it stands at the front, or its fault does
pub whole_front : (buffer behind : List ℕ) (size : ℕ) → extent buffer ≡ Whole size → size ≤ length buffer → IsGathered (extent buffer) buffer behind
    → front (buffer ++ behind) ≡ of_item behind (item_of buffer)
whole_front buffer behind size is long gathered =
    let either : (length buffer ≡ size) ⊎ ((length buffer < size) × (behind ≡ [])) = rw is at gathered in
    let exact : length buffer ≡ size = elim either [ inl same ↦ same | inr h ↦ absurd (let less : length buffer < size = h.0 in omega arith) ] in
    let told : extent (buffer ++ behind) ≡ Whole size = elim (extent_stays buffer behind) [ inl unknown ↦ absurd (let bad : Whole size ≡ Unknown = sym is ∙ unknown in cc) | inr same ↦ same ∙ is ] in
    let longer : size ≤ length (buffer ++ behind) = grind (arith, common_steps) in
    let text : take size (buffer ++ behind) ≡ buffer = rw (← exact) (take-append_seam buffer behind) in
    let after : drop size (buffer ++ behind) ≡ behind = grind (arith, common_steps) in
    front_whole (buffer ++ behind) size told longer ∙ (rw (text, after) refl)

pub fault_front : (buffer behind : List ℕ) (size : ℕ) (f : FrameFault) → extent buffer ≡ Whole size → size ≤ length buffer → IsGathered (extent buffer) buffer behind
    → item_of buffer ≡ Err f → front (buffer ++ behind) ≡ wrong f
fault_front buffer behind size f is long gathered read = whole_front buffer behind size is long gathered ∙ (rw read refl)

pub cut_item : (ended : Bool) (all buffer behind rest : List ℕ) (size at : ℕ) (x : Item) (items others : List Item) → buffer ++ behind ≡ all → extent buffer ≡ Whole size → size ≤ length buffer
    → IsGathered (extent buffer) buffer behind → item_of buffer ≡ Ok (loaded x (drop at buffer)) → items ≡ loaded x (drop at buffer) ∷ others → Cuts ended behind others rest → Cuts ended all items rest
cut_item ended all buffer behind rest size at x items others joined is long gathered read begin cut =
    rw begin (one_more ended all behind (loaded x (drop at buffer)) others rest (rw (← joined) (whole_front buffer behind size is long gathered ∙ (rw read refl))) cut)

cut_at : (b : Bool) (all rest : List ℕ) (items : List Item) → b ≡ true → Cuts true all items rest → Cuts b all items rest
cut_at true all rest items is cut = cut
cut_at false all rest items is cut = absurd (let bad : false ≡ true = is in cc)

-- the same where a function answers with the items and whether they end the stream
pub ends_if : {T E : Type 0} (r : Result T E) (items_of : T → List Item) (ended_of : T → Bool) (all whole rest : List ℕ) (f : FrameFault) → whole ≡ all → front whole ≡ wrong f
    → IfOk r (λ t. (items_of t ≡ item.Bad f ∷ []) × (ended_of t ≡ true)) → IfOk r (λ t. rest ≡ whole) → IfOk r (λ t. Cuts (ended_of t) all (items_of t) rest)
ends_if (Ok t) items_of ended_of all whole rest f joined is only same =
    cut_at (ended_of t) all rest (items_of t) only.1 (ends_in all rest (items_of t) f only.0 (same ∙ joined) (rw (← joined) is))
ends_if (Err e) items_of ended_of all whole rest f joined is only same = tt
