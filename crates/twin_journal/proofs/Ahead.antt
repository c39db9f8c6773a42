-- Batches that are held, once they are written, or one more is held.
use Rattle.std.proofs.Common.{◌≡◌, ◌≢◌, ◌⊎◌, inl, inr, ⊎_elim, ℕ, ◌+◌, List, [], ◌∷◌, ◌++◌, length, None, refl, sym, ap, ◌∙◌, ◌-◌, take, drop, subst, append_assoc, length-append, arith}
use Rattle.std.specs.Prelude.{slice_set}
use Rattle.std.proofs.Math.Seq.{set-append_seam}
use Rattle.std.proofs.lemmas.List.{append-nil, take_at}
use Rattle.disk_core.specs.Twin.{Contents}
use Rattle.book_model.specs.declared.act.Act.{Act}
use Rattle.book_model.specs.Book.{BookView, effects, first_fault}
use Rattle.journal_codec.specs.Batches.{AllApply, IsBatch, book_after}
use Rattle.journal_codec.specs.Format.{batch, blocks}
use Rattle.gate_journal.proofs.Fronts.{all_more, book_more}
use Rattle.twin_journal.specs.declared.figures.Figures.{Figures}
use Rattle.twin_journal.specs.declared.held.Held.{Held}
use Rattle.twin_journal.specs.Figures.{IsAt}
use Rattle.twin_journal.specs.Held.{IsAhead, IsFillOf, IsHeld}
use Rattle.twin_journal.specs.Holding.{HoldsAt, HoldsUpTo, TwinHolds, last_of}
use Rattle.twin_journal.specs.Keeping.{left_holds}
use Rattle.twin_journal.proofs.Grouped.{book_append}
use Rattle.twin_journal.proofs.Kept.{after_none, holds_at}

no_bytes : (lists : List (List Act)) → lists ≡ [] → length (blocks lists) ≡ 0
unfolding blocks
no_bytes lists none = ap (λ (xs : List (List Act)). length (blocks xs)) none

pub no_bytes_held : (lists : List (List Act)) → lists ≡ [] → blocks lists ++ 0 ∷ [] ≡ 0 ∷ []
unfolding blocks
no_bytes_held lists none = ap (λ (xs : List (List Act)). blocks xs ++ 0 ∷ []) none

none_counted : (lists : List (List Act)) → lists ≡ [] → length lists ≡ 0
none_counted lists none = ap (λ (xs : List (List Act)). length xs) none

-- the figures with all that is held
abbrev pub with_held : Figures → Held → Figures
with_held figures held = record figures { place = held.ahead.place; last = held.ahead.last }

same_both : (figures : Figures) (p q l m : ℕ) → p ≡ q → l ≡ m → record figures { place = p; last = l } ≡ record figures { place = q; last = m }
same_both figures p q l m place last = ap (λ (n : ℕ). record figures { place = n; last = l }) place ∙ ap (λ (n : ℕ). record figures { place = q; last = n }) last

module _ (figures : Figures) (held : Held) (lists : List (List Act)) (are : IsHeld figures held lists) where
  pub place_is : held.ahead.place ≡ figures.place + length (blocks lists)
  place_is = ap (λ (f : Figures). f.place) are.ahead

  pub last_is : held.ahead.last ≡ figures.last + length lists
  last_is = ap (λ (f : Figures). f.last) are.ahead

  pub ahead_is : with_held figures held ≡ held.ahead
  ahead_is = same_both figures held.ahead.place (figures.place + length (blocks lists)) held.ahead.last (figures.last + length lists) place_is last_is ∙ sym are.ahead

  pub base_is : held.ahead.base ≡ figures.base
  base_is = ap (λ (f : Figures). f.base) are.ahead

  -- nothing is
  pub none_more : lists ≡ [] → with_held figures held ≡ figures
  none_more none =
      same_both figures held.ahead.place figures.place held.ahead.last figures.last
      (omega (arith, place_is, no_bytes lists none)) (omega (arith, last_is, none_counted lists none))

  -- what is written has as many bytes
  pub filled : (fill : List ℕ) → IsFillOf lists fill → record figures { place = figures.place + length fill; last = figures.last + length lists } ≡ with_held figures held
  filled fill f =
      same_both figures (figures.place + length fill) held.ahead.place (figures.last + length lists) held.ahead.last
      (omega (arith, place_is, ap length f.is, length-append f.batches (0 ∷ []), ap length f.are)) (sym last_is)

-- nothing was held, so nothing is written
pub none_written : (figures : Figures) (held : Held) (seen : Contents) (may_leave : Contents → Type 0) (stamp : List ℕ) (start : BookView) (bs lists : List (List Act)) → IsAhead figures held seen may_leave stamp start bs lists
    → lists ≡ [] → IsAt (with_held figures held) seen may_leave stamp start (bs ++ lists)
none_written figures held seen may_leave stamp start bs lists ahead none =
    subst (λ (f : Figures). IsAt f seen may_leave stamp start (bs ++ lists)) (sym (none_more figures held lists ahead.are_held none))
    (subst (λ (xs : List (List Act)). IsAt figures seen may_leave stamp start xs) (sym (append-nil bs) ∙ ap (λ (xs : List (List Act)). bs ++ xs) (sym none)) ahead.at)

-- a closed gate is opened, and a batch with a closed gate after it comes behind
pub one_more : (lists : List (List Act)) (acts : List Act) → blocks (lists ++ acts ∷ []) ++ 0 ∷ [] ≡ blocks lists ++ 1 ∷ (batch acts ++ 0 ∷ [])
unfolding blocks
one_more [] acts = ap (λ (l : List ℕ). 1 ∷ (l ++ 0 ∷ [])) (append-nil (batch acts))
one_more (x ∷ lists) acts =
    ap (λ (l : List ℕ). 1 ∷ l)
    (append_assoc (batch x) (blocks (lists ++ acts ∷ [])) (0 ∷ []) ∙ ap (λ (l : List ℕ). batch x ++ l) (one_more lists acts) ∙ sym (append_assoc (batch x) (blocks lists) (1 ∷ (batch acts ++ 0 ∷ []))))

-- the bytes of one batch more
pub bytes_more : (lists : List (List Act)) (acts : List Act) → length (blocks (lists ++ acts ∷ [])) ≡ length (blocks lists) + length (batch acts ++ 0 ∷ [])
bytes_more lists acts =
    omega (arith, ap length (one_more lists acts), length-append (blocks (lists ++ acts ∷ [])) (0 ∷ []), length-append (blocks lists) (1 ∷ (batch acts ++ 0 ∷ [])))

-- the gate of the bytes that were held is opened, and those of one batch more come behind
pub gate_opened : (lists : List (List Act)) (acts : List Act) (bytes block all : List ℕ) (at : ℕ) → bytes ≡ blocks lists ++ 0 ∷ [] → block ≡ batch acts ++ 0 ∷ [] → all ≡ bytes ++ block → at ≡ length (blocks lists)
    → slice_set all at 1 ≡ blocks (lists ++ acts ∷ []) ++ 0 ∷ []
gate_opened lists acts bytes block all at is spelled both here =
    ap (λ (l : List ℕ). slice_set l at 1) (both ∙ ap (λ (l : List ℕ). l ++ block) is ∙ append_assoc (blocks lists) (0 ∷ []) block ∙ ap (λ (l : List ℕ). blocks lists ++ 0 ∷ l) spelled)
    ∙ ap (λ (n : ℕ). slice_set (blocks lists ++ 0 ∷ (batch acts ++ 0 ∷ [])) n 1) here
    ∙ set-append_seam (blocks lists) 0 (batch acts ++ 0 ∷ []) 1
    ∙ sym (one_more lists acts)

pub ahead_more : (figures : Figures) (held : Held) (lists : List (List Act)) (acts : List Act) (block : List ℕ) (n : ℕ) → IsHeld figures held lists → block ≡ batch acts ++ 0 ∷ [] → n ≡ length block
    → record held.ahead { place = held.ahead.place + n; last = held.ahead.last + 1 }
    ≡ record figures { place = figures.place + length (blocks (lists ++ acts ∷ [])); last = figures.last + length (lists ++ acts ∷ []) }
ahead_more figures held lists acts block n are spelled counted =
    ap (λ (f : Figures). record f { place = f.place + n; last = f.last + 1 }) are.ahead
    ∙ same_both figures (figures.place + length (blocks lists) + n) (figures.place + length (blocks (lists ++ acts ∷ []))) (figures.last + length lists + 1) (figures.last + length (lists ++ acts ∷ []))
    (omega (arith, counted, ap length spelled, bytes_more lists acts)) (omega (arith, length-append lists (acts ∷ [])))

-- the fill behind the first gate
whole : (l : List ℕ) → take (length (1 ∷ l) - 1) l ≡ l
whole l = ap (take (length (1 ∷ l) - 1)) (sym (append-nil l)) ∙ take_at l [] (length (1 ∷ l) - 1) (omega arith)

pub fill_is : (lists : List (List Act)) (d : List ℕ) → d ≡ blocks lists ++ 0 ∷ [] → lists ≢ [] → IsFillOf lists (take (length d - 1) (drop 1 d))
unfolding blocks
fill_is [] d is some = absurd (some refl)
fill_is (x ∷ xs) d is some = record {
  batches = batch x ++ blocks xs;
  is = ap (λ (l : List ℕ). take (length l - 1) (drop 1 l)) is ∙ whole (batch x ++ blocks xs ++ 0 ∷ []);
  are = refl;
}

-- whether none is held, by how many bytes there are
no_gate : (lists : List (List Act)) → length (blocks lists) ≡ 0 → lists ≡ []
unfolding blocks
no_gate [] none = refl
no_gate (x ∷ xs) none = absurd (omega (arith, none))

pub none_are_held : (lists : List (List Act)) (bytes : List ℕ) → bytes ≡ blocks lists ++ 0 ∷ [] → length bytes ≡ 1 → lists ≡ []
none_are_held lists bytes is one = no_gate lists (omega (arith, one, ap length is, length-append (blocks lists) (0 ∷ [])))

pub one_byte_held : (lists : List (List Act)) (bytes : List ℕ) → bytes ≡ blocks lists ++ 0 ∷ [] → lists ≡ [] → length bytes ≡ 1
one_byte_held lists bytes is none = omega (arith, ap length is, length-append (blocks lists) (0 ∷ []), no_bytes lists none)

-- one more is held
pub more_ahead : (figures : Figures) (old new : Held) (seen : Contents) (may_leave : Contents → Type 0) (stamp : List ℕ) (start book : BookView) (bs lists : List (List Act)) (acts : List Act)
    → IsAhead figures old seen may_leave stamp start bs lists → IsHeld figures new (lists ++ acts ∷ []) → book_after start (bs ++ lists) ≡ book → IsBatch acts → first_fault book acts ≡ None
    → IsAhead figures new seen may_leave stamp start bs (lists ++ acts ∷ [])
more_ahead figures old new seen may_leave stamp start book bs lists acts ahead held leaves is applies = record {
  at = ahead.at;
  are_held = held;
  apply = all_more (book_after start bs) lists acts ahead.apply is (subst (λ (b : BookView). first_fault b acts ≡ None) (sym leaves ∙ book_append start bs lists) applies);
}

-- it applies alone
pub one_applies : (book : BookView) (acts : List Act) → IsBatch acts → first_fault book acts ≡ None → AllApply (book_after book []) (acts ∷ [])
unfolding AllApply book_after
one_applies book acts is applies = (is, applies, tt)

pub one_ahead : (figures : Figures) (held : Held) (seen : Contents) (may_leave : Contents → Type 0) (stamp : List ℕ) (book : BookView) (acts : List Act) → IsAt figures seen may_leave stamp book []
    → IsHeld figures held (acts ∷ []) → IsBatch acts → first_fault book acts ≡ None → IsAhead figures held seen may_leave stamp book [] (acts ∷ [])
one_ahead figures held seen may_leave stamp book acts at are is applies = record { at = at; are_held = are; apply = one_applies book acts is applies }

-- the book after one batch more
pub book_with : (start book : BookView) (bs held : List (List Act)) (acts : List Act) → book_after start (bs ++ held) ≡ book → effects book acts ≡ book_after start (bs ++ (held ++ acts ∷ []))
book_with start book bs held acts leaves =
    ap (λ (b : BookView). effects b acts) (sym leaves) ∙ sym (book_more start (bs ++ held) acts) ∙ ap (book_after start) (append_assoc bs held (acts ∷ []))

pub book_with_one : (book : BookView) (acts : List Act) → effects book acts ≡ book_after book ([] ++ acts ∷ [])
unfolding book_after
book_with_one book acts = refl

-- the last of some batches is that of those behind, if there are any
pub last_behind_all : (bs : List (List Act)) (x : List Act) (xs : List (List Act)) → last_of (bs ++ x ∷ xs) ≡ last_of (x ∷ xs)
last_behind_all [] x xs = refl
last_behind_all (b ∷ []) x xs = refl
last_behind_all (b ∷ more ∷ bs) x xs = last_behind_all (more ∷ bs) x xs

-- what a crash leaves while a group is written: none of its batches, or all
module _ (d : Contents) (base : ℕ) (start : BookView) (bs : List (List Act)) where
  before_group : (count : ℕ) → count ≡ base + length bs → TwinHolds d base start bs → HoldsAt d (book_after start bs) count
  before_group count counted holds = holds_at d base count start (book_after start bs) bs holds refl counted

  after_group : (count : ℕ) (x : List Act) (xs : List (List Act)) → count ≡ base + length bs + length (x ∷ xs) → TwinHolds d base start (bs ++ x ∷ xs) → HoldsUpTo d (book_after start (bs ++ x ∷ xs)) count (last_of (x ∷ xs))
  after_group count x xs counted holds = record {
    base = base;
    start = start;
    batches = bs ++ x ∷ xs;
    holds = holds;
    leaves = refl;
    counted = omega (arith, counted, length-append bs (x ∷ xs));
    last_is = sym (last_behind_all bs x xs);
  }

  pub none_or_all : (written count : ℕ) (lists : List (List Act)) → written ≡ base + length bs → count ≡ written + length lists → TwinHolds d base start bs ⊎ TwinHolds d base start (bs ++ lists)
      → HoldsAt d (book_after start bs) written ⊎ HoldsUpTo d (book_after start (bs ++ lists)) count (last_of lists)
  none_or_all written count [] is counts either =
      ⊎_elim (λ before. inl (before_group written is before))
      (λ after. inl (before_group written is (subst (λ (xs : List (List Act)). TwinHolds d base start xs) (append-nil bs) after))) either
  none_or_all written count (x ∷ xs) is counts either =
      ⊎_elim (λ before. inl (before_group written is before)) (λ after. inr (after_group count x xs (omega (arith, is, counts)) after)) either

  -- and while what is held is written and a checkpoint made
  pub one_of_three : (written count : ℕ) (book : BookView) (lists : List (List Act)) → written ≡ base + length bs → count ≡ written + length lists → book_after start (bs ++ lists) ≡ book
      → TwinHolds d base start bs ⊎ TwinHolds d base start (bs ++ lists) ⊎ TwinHolds d count book []
      → HoldsAt d (book_after start bs) written ⊎ HoldsAt d book count
  one_of_three written count book lists is counts leaves =
      ⊎_elim (λ before. inl (before_group written is before)) (⊎_elim
      (λ after. inr (holds_at d base count start book (bs ++ lists) after leaves (let counted : count ≡ base + length (bs ++ lists) = omega (arith, is, counts, length-append bs lists) in counted)))
      (λ renewed. inr (holds_at d count count book book [] renewed (after_none book) (let same : count ≡ count + 0 = omega arith in same))))

-- the files are left alone
pub left_first : (d : Contents) (figures : Figures) (held : Held) (seen : Contents) (may_leave : Contents → Type 0) (stamp : List ℕ) (start : BookView) (bs lists : List (List Act))
    → IsAhead figures held seen may_leave stamp start bs lists → may_leave d → HoldsAt d (book_after start bs) figures.last
left_first d figures held seen may_leave stamp start bs lists ahead left =
    holds_at d figures.base figures.last start (book_after start bs) bs (left_holds d figures seen may_leave stamp start bs ahead.at left) refl ahead.at.fits.last
