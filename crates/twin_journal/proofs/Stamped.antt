-- The bytes behind an open gate are those of one epoch, one base and one checkpoint only.
use Rattle.std.proofs.Common.{◌≡◌, ◌≢◌, ℕ, ◌+◌, ◌<◌, ◌≤◌, ◌^◌, List, [], ◌∷◌, ◌++◌, length, take, drop, Option, Some, None, refl, sym, ap, ◌∙◌, subst, arith, append_assoc, length-append}
use Rattle.std.specs.Prelude.{IfNone}
use Rattle.std.proofs.lemmas.List.{take_at, drop_at}
use Rattle.book_model.specs.Book.{BookView}
use Rattle.journal_codec.specs.Format.{in_4, in_8}
use Rattle.journal_codec.proofs.Spelled.{length-in_4, length-in_8}
use Rattle.twin_journal.specs.Checkpoints.{IsCheckpoint, IsStamp, NoStamp}
use Rattle.twin_journal.specs.Format.{largest, stamp_bytes}
use Rattle.twin_journal.specs.Reading.{IsSized, AreFields, IsFill}
use Rattle.twin_journal.proofs.Spelled.{same_4, same_8, small_fits}

pub if_none : {A P : Type 0} (o : Option A) → P → IfNone o P
if_none None p = p
if_none (Some x) p = tt

pub stamp_parts : (epoch base : ℕ) (checkpoint behind : List ℕ) → stamp_bytes epoch base checkpoint ++ behind ≡ in_8 epoch ++ (in_8 base ++ (in_4 (length checkpoint) ++ (checkpoint ++ behind)))
unfolding stamp_bytes
stamp_parts epoch base checkpoint behind =
    append_assoc (in_8 epoch ++ in_8 base ++ in_4 (length checkpoint)) checkpoint behind
    ∙ append_assoc (in_8 epoch ++ in_8 base) (in_4 (length checkpoint)) (checkpoint ++ behind)
    ∙ append_assoc (in_8 epoch) (in_8 base) (in_4 (length checkpoint) ++ (checkpoint ++ behind))

-- A checkpoint after its length.
pub too_short : (bytes : List ℕ) → length bytes < 4 → (checkpoint behind : List ℕ) → IsSized bytes checkpoint behind → ⊥
too_short bytes short checkpoint behind is = omega (arith, short, ap length is.is, length-append (in_4 (length checkpoint)) (checkpoint ++ behind), length-in_4 (length checkpoint))

some_long : (behind : List ℕ) → behind ≢ [] → 0 < length behind
some_long [] some = absurd (some refl)
some_long (x ∷ xs) some = omega arith

pub too_long : (bytes rest : List ℕ) (size : ℕ) → size < 2 ^ 32 → bytes ≡ in_4 size ++ rest → length rest ≤ size → (checkpoint behind : List ℕ) → IsSized bytes checkpoint behind → ⊥
too_long bytes rest size fits e short checkpoint behind is =
    let same = same_4 size (length checkpoint) rest (checkpoint ++ behind) fits is.short (sym e ∙ is.is) in
    omega (arith, short, same.numbers, ap length same.rests, length-append checkpoint behind, some_long behind is.some)

-- bytes in two parts, the first of this length
pub record SameParts (front back other rest : List ℕ) : Type 0 where
  pub fronts : front ≡ other
  pub rests : back ≡ rest

pub same_parts : (front back other rest : List ℕ) → length front ≡ length other → front ++ back ≡ other ++ rest → SameParts front back other rest
same_parts front back other rest len e = record {
  fronts = sym (take_at front back (length front) refl) ∙ ap (take (length front)) e ∙ take_at other rest (length front) (sym len);
  rests = sym (drop_at front back (length front) refl) ∙ ap (drop (length front)) e ∙ drop_at other rest (length front) (sym len);
}

pub one_size : (bytes checkpoint behind other rest : List ℕ) → IsSized bytes checkpoint behind → IsSized bytes other rest → SameParts checkpoint behind other rest
one_size bytes checkpoint behind other rest is too =
    let same = same_4 (length checkpoint) (length other) (checkpoint ++ behind) (other ++ rest) is.short too.short (sym is.is ∙ too.is) in
    same_parts checkpoint behind other rest same.numbers same.rests

-- Fields.
pub no_epoch : (bytes : List ℕ) → ((n : ℕ) (rest : List ℕ) → n ≤ largest → bytes ≡ in_8 n ++ rest → ⊥) → (epoch base : ℕ) (checkpoint behind : List ℕ) → AreFields bytes epoch base checkpoint behind → ⊥
no_epoch bytes none epoch base checkpoint behind are =
    none epoch (in_8 base ++ (in_4 (length checkpoint) ++ (checkpoint ++ behind))) are.epoch_fits (are.is ∙ stamp_parts epoch base checkpoint behind)

-- behind the epoch
module _ (bytes : List ℕ) (first : ℕ) (rest : List ℕ) (is_first : bytes ≡ in_8 first ++ rest) (small : first ≤ largest) where
  record Behind (epoch base : ℕ) (checkpoint behind : List ℕ) : Type 0 where
    epoch_is : epoch ≡ first
    rest_is : rest ≡ in_8 base ++ (in_4 (length checkpoint) ++ (checkpoint ++ behind))

  behind_epoch : (epoch base : ℕ) (checkpoint behind : List ℕ) → AreFields bytes epoch base checkpoint behind → Behind epoch base checkpoint behind
  behind_epoch epoch base checkpoint behind are =
      let same = same_8 epoch first (in_8 base ++ (in_4 (length checkpoint) ++ (checkpoint ++ behind))) rest (small_fits epoch are.epoch_fits) (small_fits first small)
      (sym (are.is ∙ stamp_parts epoch base checkpoint behind) ∙ is_first) in
      record { epoch_is = same.numbers; rest_is = sym same.rests }

  pub no_base : ((n : ℕ) (after : List ℕ) → n ≤ largest → rest ≡ in_8 n ++ after → ⊥) → (epoch base : ℕ) (checkpoint behind : List ℕ) → AreFields bytes epoch base checkpoint behind → ⊥
  no_base none epoch base checkpoint behind are = none base (in_4 (length checkpoint) ++ (checkpoint ++ behind)) are.base_fits (behind_epoch epoch base checkpoint behind are).rest_is

  -- behind the base
  module _ (second : ℕ) (after : List ℕ) (is_second : rest ≡ in_8 second ++ after) (small_too : second ≤ largest) where
    record Sized (epoch base : ℕ) (checkpoint behind : List ℕ) : Type 0 where
      epoch_same : epoch ≡ first
      base_is : base ≡ second
      sized : IsSized after checkpoint behind

    behind_base : (epoch base : ℕ) (checkpoint behind : List ℕ) → AreFields bytes epoch base checkpoint behind → Sized epoch base checkpoint behind
    behind_base epoch base checkpoint behind are =
        let front = behind_epoch epoch base checkpoint behind are in
        let same = same_8 base second (in_4 (length checkpoint) ++ (checkpoint ++ behind)) after (small_fits base are.base_fits) (small_fits second small_too) (sym front.rest_is ∙ is_second) in
        record { epoch_same = front.epoch_is; base_is = same.numbers; sized = record { is = sym same.rests; short = are.short; some = are.some } }

    pub no_checkpoint : ((checkpoint behind : List ℕ) → IsSized after checkpoint behind → ⊥) → (epoch base : ℕ) (checkpoint behind : List ℕ) → AreFields bytes epoch base checkpoint behind → ⊥
    no_checkpoint none epoch base checkpoint behind are = none checkpoint behind (behind_base epoch base checkpoint behind are).sized

    pub these_fields : (checkpoint behind : List ℕ) → IsSized after checkpoint behind → AreFields bytes first second checkpoint behind
    these_fields checkpoint behind is = record {
      is = is_first ∙ ap (λ (l : List ℕ). in_8 first ++ l) (is_second ∙ ap (λ (l : List ℕ). in_8 second ++ l) is.is) ∙ sym (stamp_parts first second checkpoint behind);
      epoch_fits = small;
      base_fits = small_too;
      short = is.short;
      some = is.some;
    }

-- Fields at the front are the only ones.
pub record SameFields (epoch base : ℕ) (checkpoint behind : List ℕ) (second lower : ℕ) (other rest : List ℕ) : Type 0 where
  pub epochs : epoch ≡ second
  pub bases : base ≡ lower
  pub checkpoints : checkpoint ≡ other
  pub rests : behind ≡ rest

pub one_stamp : (bytes : List ℕ) (epoch base : ℕ) (checkpoint behind : List ℕ) (second lower : ℕ) (other rest : List ℕ) → AreFields bytes epoch base checkpoint behind → AreFields bytes second lower other rest
    → SameFields epoch base checkpoint behind second lower other rest
one_stamp bytes epoch base checkpoint behind second lower other rest are too =
    let after = in_4 (length other) ++ (other ++ rest) in
    let here = behind_base bytes second (in_8 lower ++ after) (too.is ∙ stamp_parts second lower other rest) too.epoch_fits lower after refl too.base_fits epoch base checkpoint behind are in
    let same = one_size after checkpoint behind other rest here.sized (record { is = refl; short = too.short; some = too.some }) in
    record { epochs = here.epoch_same; bases = here.base_is; checkpoints = same.fronts; rests = same.rests }

pub gate_behind : (gate : ℕ) (rest : List ℕ) → (gate ∷ rest) ≢ []
gate_behind gate rest e = absurd cc

-- the fields of a stamp
pub stamp_fields : (bytes stamp : List ℕ) (epoch base size : ℕ) (book : BookView) (behind : List ℕ) → behind ≢ [] → (is : IsStamp stamp epoch base size book) → bytes ≡ stamp ++ behind → AreFields bytes epoch base is.checkpoint behind
stamp_fields bytes stamp epoch base size book behind some is e = record {
  is = e ∙ ap (λ (l : List ℕ). l ++ behind) is.is;
  epoch_fits = is.epoch_fits;
  base_fits = is.base_fits;
  short = is.short;
  some = some;
}

-- bytes with these fields have no stamp where the checkpoint is none
pub no_stamp : (bytes : List ℕ) (epoch base : ℕ) (checkpoint behind : List ℕ) → AreFields bytes epoch base checkpoint behind → ((book : BookView) → IsCheckpoint checkpoint book → ⊥) → NoStamp bytes
no_stamp bytes epoch base checkpoint behind are none second lower size stamp book gate rest is e =
    let too = stamp_fields bytes stamp second lower size book (gate ∷ rest) (gate_behind gate rest) is e in
    let same = one_stamp bytes epoch base checkpoint behind second lower is.checkpoint (gate ∷ rest) are too in
    none book (subst (λ (l : List ℕ). IsCheckpoint l book) (sym same.checkpoints) is.is_checkpoint)

-- what is written behind a gate
pub filled_length : (checkpoint : List ℕ) (epoch base size : ℕ) → length (in_8 epoch ++ in_8 base ++ in_4 size ++ checkpoint ++ 0 ∷ []) ≡ length checkpoint + 21
filled_length checkpoint epoch base size =
    omega (
      arith,
      length-append (in_8 epoch ++ in_8 base ++ in_4 size ++ checkpoint) (0 ∷ []),
      length-append (in_8 epoch ++ in_8 base ++ in_4 size) checkpoint,
      length-append (in_8 epoch ++ in_8 base) (in_4 size),
      length-append (in_8 epoch) (in_8 base),
      length-in_8 epoch,
      length-in_8 base,
      length-in_4 size,
    )

pub filled : (bytes checkpoint : List ℕ) (epoch base size count : ℕ) (book : BookView) → epoch ≤ largest → base ≤ largest → size < 2 ^ 32 → size ≡ length checkpoint → count ≡ length checkpoint → IsCheckpoint checkpoint book
    → bytes ≡ in_8 epoch ++ in_8 base ++ in_4 size ++ checkpoint ++ 0 ∷ [] → IsFill bytes epoch base count book
unfolding stamp_bytes
filled bytes checkpoint epoch base size count book epoch_fits base_fits short size_is count_is is e = record {
  stamp = stamp_bytes epoch base checkpoint;
  is_stamp = record {
    checkpoint = checkpoint;
    is = refl;
    epoch_fits = epoch_fits;
    base_fits = base_fits;
    short = subst (λ (n : ℕ). n < 2 ^ 32) size_is short;
    size_is = count_is;
    is_checkpoint = is;
  };
  is = e ∙ ap (λ (n : ℕ). in_8 epoch ++ in_8 base ++ in_4 n ++ checkpoint ++ 0 ∷ []) size_is;
}
