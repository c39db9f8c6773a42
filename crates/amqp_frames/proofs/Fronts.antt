-- What stands at the front, by the extent; it stays so whatever follows.
use Rattle.std.proofs.Common.{◌≡◌, ℕ, ◌-◌, ◌<◌, ◌≤◌, List, [], ◌++◌, length, take, drop, refl, sym, ◌∙◌, arith, true, false, Ok, Err, Result, ◌⊎◌, inl, inr, Bool}
use Rattle.std.proofs.lemmas.List.{take-append-le, drop-append-le}
use Rattle.std.proofs.lemmas.Grind.{common_steps}
use Rattle.std.specs.Prelude.{nat_lt}
use Rattle.amqp_frames.specs.declared.extent.Extent.{Extent}
use Rattle.amqp_frames.specs.declared.extent.Extent.TheVariants.{Unknown, Whole, Wrong}
use Rattle.amqp_model.specs.declared.frame_fault.FrameFault.{FrameFault}
use Rattle.amqp_model.specs.declared.item.Item.{Item}
use Rattle.amqp_frames.specs.Contract.{loaded}
use Rattle.amqp_frames.specs.Extents.{extent}
use Rattle.amqp_frames.specs.Frames.{more, found, wrong, front, of_item, item_of}
use Rattle.amqp_frames.proofs.Sizes.{extent_stays, extent_at_least, unknown_below}

pub front_unknown : (bytes : List ℕ) → extent bytes ≡ Unknown → front bytes ≡ more
unfolding front
front_unknown bytes h = rw h refl

pub front_wrong : (bytes : List ℕ) (f : FrameFault) → extent bytes ≡ Wrong f → front bytes ≡ wrong f
unfolding front
front_wrong bytes f h = rw h refl

pub front_short : (bytes : List ℕ) (size : ℕ) → extent bytes ≡ Whole size → length bytes < size → front bytes ≡ more
unfolding front
front_short bytes size h short = let test : nat_lt (length bytes) size ≡ true = grind arith in rw (h, test) refl

pub front_whole : (bytes : List ℕ) (size : ℕ) → extent bytes ≡ Whole size → size ≤ length bytes → front bytes ≡ of_item (drop size bytes) (item_of (take size bytes))
unfolding front
front_whole bytes size h long = let test : nat_lt (length bytes) size ≡ false = grind arith in rw (h, test) refl

pub front_item : (bytes : List ℕ) (size : ℕ) (x : Item) → extent bytes ≡ Whole size → size ≤ length bytes → item_of (take size bytes) ≡ Ok x → front bytes ≡ found x (drop size bytes)
front_item bytes size x h long is = front_whole bytes size h long ∙ (rw is refl)

pub front_fault : (bytes : List ℕ) (size : ℕ) (f : FrameFault) → extent bytes ≡ Whole size → size ≤ length bytes → item_of (take size bytes) ≡ Err f → front bytes ≡ wrong f
front_fault bytes size f h long is = front_whole bytes size h long ∙ (rw is refl)

-- what follows a whole item is shorter
pub behind_shorter : (bytes : List ℕ) (size : ℕ) → extent bytes ≡ Whole size → size ≤ length bytes → length (drop size bytes) < length bytes
behind_shorter bytes size h long = let eight = extent_at_least bytes size h in grind (arith, common_steps)

-- an item that was read without its payload, with the payload that was copied
pub front_read : (bytes text after payload : List ℕ) (size at : ℕ) (x y : Item) → extent bytes ≡ Whole size → size ≤ length bytes
    → text ≡ take size bytes → after ≡ drop size bytes → item_of text ≡ Ok (loaded x (drop at text))
    → payload ≡ take (length text - at) (drop at text) → y ≡ loaded x payload → front bytes ≡ found y after
front_read bytes text after payload size at x y h long front_is after_turn_is is copied loads =
    let all : take (length text - at) (drop at text) ≡ drop at text = grind (arith, common_steps) in
    let same : y ≡ loaded x (drop at text) = rw (loads, copied, all) refl in
    let read : item_of (take size bytes) ≡ Ok y = rw (← front_is, same) is in
    rw after_turn_is (front_item bytes size y h long read)

-- what was found stays found
of_item_found : (after behind : List ℕ) (read : Result Item FrameFault) (x : Item) (rest : List ℕ) → of_item after read ≡ found x rest → of_item (after ++ behind) read ≡ found x (rest ++ behind)
of_item_found after behind (Ok y) x rest h = cc
of_item_found after behind (Err f) x rest h = absurd (let bad : wrong f ≡ found x rest = h in cc)

rest_shorter : (read : Result Item FrameFault) (bytes : List ℕ) (size : ℕ) (x : Item) (rest : List ℕ) → of_item (drop size bytes) read ≡ found x rest
    → length (drop size bytes) < length bytes → length rest < length bytes
rest_shorter (Ok y) bytes size x rest h less = let same : drop size bytes ≡ rest = cc in rw same at less
rest_shorter (Err f) bytes size x rest h less = absurd (let bad : wrong f ≡ found x rest = h in cc)

pub long_enough : (short : Bool) (bytes : List ℕ) (size : ℕ) (x : Item) (rest : List ℕ) → nat_lt (length bytes) size ≡ short → extent bytes ≡ Whole size
    → front bytes ≡ found x rest → size ≤ length bytes
long_enough true bytes size x rest test h found_is =
    let less : length bytes < size = grind arith in absurd (let bad : more ≡ found x rest = sym (front_short bytes size h less) ∙ found_is in cc)
long_enough false bytes size x rest test h found_is = grind arith

stays_by : (e : Extent) (bytes behind : List ℕ) (x : Item) (rest : List ℕ) → extent bytes ≡ e → (extent bytes ≡ Unknown) ⊎ (extent (bytes ++ behind) ≡ extent bytes)
    → front bytes ≡ found x rest → (front (bytes ++ behind) ≡ found x (rest ++ behind)) × (length rest < length bytes)
stays_by Unknown bytes behind x rest h stays is = absurd (let bad : more ≡ found x rest = sym (front_unknown bytes h) ∙ is in cc)
stays_by (Wrong f) bytes behind x rest h stays is = absurd (let bad : wrong f ≡ found x rest = sym (front_wrong bytes f h) ∙ is in cc)
stays_by (Whole size) bytes behind x rest h (inl unknown) is = absurd (let bad : Whole size ≡ Unknown = sym h ∙ unknown in cc)
stays_by (Whole size) bytes behind x rest h (inr same) is =
    let long : size ≤ length bytes = long_enough (nat_lt (length bytes) size) bytes size x rest refl h is in
    let longer : size ≤ length (bytes ++ behind) = grind (arith, common_steps) in
    let read : of_item (drop size bytes) (item_of (take size bytes)) ≡ found x rest = sym (front_whole bytes size h long) ∙ is in (
      front_whole (bytes ++ behind) size (same ∙ h) longer
          ∙ (rw (take-append-le size bytes behind long, drop-append-le size bytes behind long) (of_item_found (drop size bytes) behind (item_of (take size bytes)) x rest read)),
      rest_shorter (item_of (take size bytes)) bytes size x rest read (behind_shorter bytes size h long),
    )

pub front_stays : (bytes behind : List ℕ) (x : Item) (rest : List ℕ) → front bytes ≡ found x rest → front (bytes ++ behind) ≡ found x (rest ++ behind)
front_stays bytes behind x rest is = (stays_by (extent bytes) bytes behind x rest refl (extent_stays bytes behind) is).0

-- what follows an item is shorter
pub found_shorter : (bytes : List ℕ) (x : Item) (rest : List ℕ) → front bytes ≡ found x rest → length rest < length bytes
found_shorter bytes x rest is = (stays_by (extent bytes) bytes [] x rest refl (extent_stays bytes []) is).1

-- bytes that begin no item begin none however they go on
of_item_wrong : (after behind : List ℕ) (read : Result Item FrameFault) (f : FrameFault) → of_item after read ≡ wrong f → of_item (after ++ behind) read ≡ wrong f
of_item_wrong after behind (Ok y) f h = absurd (let bad : found y after ≡ wrong f = h in cc)
of_item_wrong after behind (Err e) f h = h

wrong_long : (short : Bool) (bytes : List ℕ) (size : ℕ) (f : FrameFault) → nat_lt (length bytes) size ≡ short → extent bytes ≡ Whole size → front bytes ≡ wrong f → size ≤ length bytes
wrong_long true bytes size f test h is =
    let less : length bytes < size = grind arith in absurd (let bad : more ≡ wrong f = sym (front_short bytes size h less) ∙ is in cc)
wrong_long false bytes size f test h is = grind arith

wrong_by : (e : Extent) (bytes behind : List ℕ) (f : FrameFault) → extent bytes ≡ e → (extent bytes ≡ Unknown) ⊎ (extent (bytes ++ behind) ≡ extent bytes) → front bytes ≡ wrong f → front (bytes ++ behind) ≡ wrong f
wrong_by Unknown bytes behind f h stays is = absurd (let bad : more ≡ wrong f = sym (front_unknown bytes h) ∙ is in cc)
wrong_by (Wrong g) bytes behind f h (inl unknown) is = absurd (let bad : Wrong g ≡ Unknown = sym h ∙ unknown in cc)
wrong_by (Wrong g) bytes behind f h (inr same) is = front_wrong (bytes ++ behind) g (same ∙ h) ∙ sym (front_wrong bytes g h) ∙ is
wrong_by (Whole size) bytes behind f h (inl unknown) is = absurd (let bad : Whole size ≡ Unknown = sym h ∙ unknown in cc)
wrong_by (Whole size) bytes behind f h (inr same) is =
    let long : size ≤ length bytes = wrong_long (nat_lt (length bytes) size) bytes size f refl h is in
    let longer : size ≤ length (bytes ++ behind) = grind (arith, common_steps) in
    front_whole (bytes ++ behind) size (same ∙ h) longer
    ∙ (rw (take-append-le size bytes behind long, drop-append-le size bytes behind long) (of_item_wrong (drop size bytes) behind (item_of (take size bytes)) f (sym (front_whole bytes size h long) ∙ is)))

pub wrong_stays : (bytes behind : List ℕ) (f : FrameFault) → front bytes ≡ wrong f → front (bytes ++ behind) ≡ wrong f
wrong_stays bytes behind f is = wrong_by (extent bytes) bytes behind f refl (extent_stays bytes behind) is

pub never_more : (after : List ℕ) (read : Result Item FrameFault) → of_item after read ≡ more → ⊥
never_more after (Ok x) h = let bad : found x after ≡ more = h in absurd cc
never_more after (Err f) h = let bad : wrong f ≡ more = h in absurd cc

-- less than an item is less than the largest frame
more_by : (e : Extent) (bytes : List ℕ) → extent bytes ≡ e → front bytes ≡ more → (short : Bool) → nat_lt (length bytes) 16384 ≡ short → length bytes < 16384
more_by e bytes h is true test = grind arith
more_by Unknown bytes h is false test = let few = unknown_below bytes h in omega arith
more_by (Wrong f) bytes h is false test = absurd (let bad : wrong f ≡ more = sym (front_wrong bytes f h) ∙ is in cc)
more_by (Whole size) bytes h is false test =
    let most = extent_at_least bytes size h in
    let long : 16384 ≤ length bytes = grind arith in
    absurd (never_more (drop size bytes) (item_of (take size bytes)) (sym (front_whole bytes size h (omega arith)) ∙ is))

pub more_below : (bytes : List ℕ) → front bytes ≡ more → length bytes < 16384
more_below bytes is = more_by (extent bytes) bytes refl is (nat_lt (length bytes) 16384) refl
