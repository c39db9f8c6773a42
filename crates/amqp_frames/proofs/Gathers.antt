-- What was gathered of an item.
use Rattle.std.proofs.Common.{◌≡◌, ℕ, ◌<◌, ◌≤◌, List, [], ◌++◌, length, take, drop, max, sym, ap, ◌∙◌, arith, ◌⊎◌, inl, inr}
use Rattle.std.proofs.lemmas.Grind.{common_steps}
use Rattle.std.proofs.lemmas.List.{take_all}
use Rattle.amqp_frames.specs.declared.extent.Extent.{Extent}
use Rattle.amqp_frames.specs.declared.extent.Extent.TheVariants.{Unknown, Whole, Wrong}
use Rattle.amqp_frames.specs.Contract.{IsGathered}
use Rattle.amqp_frames.specs.Extents.{extent}
use Rattle.amqp_frames.specs.Frames.{more, front, item_of}
use Rattle.amqp_frames.proofs.Fronts.{front_whole, never_more}
use Rattle.amqp_frames.proofs.Sizes.{extent_stays, extent_at_least}

-- where an item isn't whole, not all of its bytes have come
short_by : (size : ℕ) (bytes : List ℕ) → (length bytes < size) ⊎ (size ≤ length bytes) → extent bytes ≡ Whole size → front bytes ≡ more → length bytes < size
short_by size bytes (inl less) h is = less
short_by size bytes (inr long) h is = absurd (never_more (drop size bytes) (item_of (take size bytes)) (sym (front_whole bytes size h long) ∙ is))

pub more_is_short : (size : ℕ) (bytes : List ℕ) → extent bytes ≡ Whole size → front bytes ≡ more → length bytes < size
more_is_short size bytes h is = short_by size bytes (grind arith) h is

-- the first bytes never ask for more than the item's own size
first_within : (size : ℕ) (old first : List ℕ) → (length old ≤ 8) ⊎ (8 < length old) → length first ≤ max (length old) 8 → take (length old) first ≡ old
    → extent first ≡ Whole size → front old ≡ more → length first ≤ size
first_within size old first (inl few) within kept is short = let least = extent_at_least first size is in omega arith
first_within size old first (inr many) within kept is short =
    let bound : length first ≤ length old = omega arith in
    let same : first ≡ old = sym (take_all (length old) first bound) ∙ kept in
    let less = more_is_short size old (ap extent (sym same) ∙ is) short in
    omega (arith, ap length same)

stays_told : (size : ℕ) (first all : List ℕ) → take (length first) all ≡ first → extent first ≡ Whole size → extent all ≡ Whole size
stays_told size first all kept is =
    let split : first ++ drop (length first) all ≡ all = grind (arith, common_steps) in
    elim (extent_stays first (drop (length first) all)) [ inl unknown ↦ absurd (let bad : Whole size ≡ Unknown = sym is ∙ unknown in cc) | inr same ↦ ap extent (sym split) ∙ same ∙ is ]

rest_by : (size : ℕ) (all behind : List ℕ) → (length all < size) ⊎ (length all ≡ size) → behind ≡ [] → (length all ≡ size) ⊎ ((length all < size) × (behind ≡ []))
rest_by size all behind (inl less) none = inr (less, none)
rest_by size all behind (inr same) none = inl same

gathered_by : (e : Extent) (size : ℕ) (all behind : List ℕ) → e ≡ Whole size → length all ≤ size → (size ≤ length all) ⊎ (behind ≡ []) → IsGathered e all behind
gathered_by Unknown size all behind h within filled = absurd (let bad : Unknown ≡ Whole size = h in cc)
gathered_by (Wrong f) size all behind h within filled = tt
gathered_by (Whole n) size all behind h within (inl long) = let same : n ≡ size = cc in inl (omega arith)
gathered_by (Whole n) size all behind h within (inr none) = let same : n ≡ size = cc in rest_by n all behind (grind arith) none

pub whole_gathered : (size : ℕ) (old first all behind : List ℕ) → front old ≡ more → extent first ≡ Whole size
    → length first ≤ max (length old) 8 → take (length old) first ≡ old
    → length all ≤ max (length first) size → take (length first) all ≡ first → (size ≤ length all) ⊎ (behind ≡ []) → IsGathered (extent all) all behind
whole_gathered size old first all behind short is within kept limit held filled =
    let least : length first ≤ size = first_within size old first (grind arith) within kept is short in
    gathered_by (extent all) size all behind (stays_told size first all held is) (omega arith) filled
