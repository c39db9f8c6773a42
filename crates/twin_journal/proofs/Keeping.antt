-- A journal that keeps batches, after one more, and after a checkpoint.
use Rattle.std.proofs.Common.{◌≡◌, ◌⊎◌, inl, inr, ⊎_elim, ℕ, ◌+◌, Bool, true, false, List, [], ◌∷◌, ◌++◌, Result, Ok, Err, refl, sym, ap, ◌∙◌, subst, arith}
use Rattle.std.specs.Prelude.{IfOk, OnErr, if◌then◌else◌}
use Rattle.std.proofs.lemmas.List.{append-nil}
use Rattle.disk_core.specs.Disk.{LeavesOnly}
use Rattle.disk_core.specs.DiskLaws.{joined, widened}
use Rattle.disk_core.specs.Twin.{Contents}
use Rattle.book_model.specs.declared.act.Act.{Act}
use Rattle.book_model.specs.Book.{BookView, effects}
use Rattle.journal_codec.specs.Batches.{book_after}
use Rattle.gate_journal.proofs.Fronts.{book_more}
use Rattle.twin_journal.specs.declared.figures.Figures.{Figures}
use Rattle.twin_journal.specs.declared.figures.Needs.{Needs}
use Rattle.twin_journal.specs.declared.journal.Journal.{Journal}
use Rattle.twin_journal.specs.Figures.{IsAt}
use Rattle.twin_journal.specs.Held.{IsAhead}
use Rattle.twin_journal.specs.Format.{checkpoint_size}
use Rattle.twin_journal.specs.Holding.{BeforeOrAfter, HoldsAt, HoldsUpTo, TwinHolds, last_of}
use Rattle.twin_journal.specs.Journal.{Holds, HoldsBook, Keeps, KeepsBook, batch_count, written_count}
use Rattle.twin_journal.specs.Keeping.{keeps_holds, kept_is_held}
use Rattle.twin_journal.specs.Room.{Suits}
use Rattle.twin_journal.proofs.Ahead.{ahead_is, book_with, book_with_one, last_is, no_bytes_held, none_more, none_written}

-- of what an Ok has, what follows
pub if_ok : {A E : Type 0} {P Q : A → Type 0} (r : Result A E) → ((x : A) → P x → Q x) → IfOk r P → IfOk r Q
if_ok (Ok x) f p = f x p
if_ok (Err e) f p = tt

pub on_err : {A E : Type 0} {P : Type 0} (r : Result A E) → P → OnErr r P
on_err (Ok x) p = tt
on_err (Err e) p = p

-- one of two numbers
pub either_of : {n a b : ℕ} (q : Bool) → n ≡ (if q then a else b) → n ≡ b ⊎ n ≡ a
either_of false is = inl is
either_of true is = inr is

-- of two things that an Ok has
pub if_both : {A E : Type 0} {P Q R : A → Type 0} (r : Result A E) → ((x : A) → P x → Q x → R x) → IfOk r P → IfOk r Q → IfOk r R
if_both (Ok x) f p q = f x p q
if_both (Err e) f p q = tt

after_none : (b : BookView) → b ≡ book_after b []
unfolding book_after
after_none b = refl

after_one : (b : BookView) (acts : List Act) → effects b acts ≡ book_after b (acts ∷ [])
unfolding book_after
after_one b acts = refl

pub renewed_suits : (needs : Needs) (size : ℕ) (book : BookView) → Suits needs book → size ≡ checkpoint_size book → Suits (record { reserve = needs.reserve; size = size }) (book_after book [])
renewed_suits needs size book suits is =
    subst (Suits (record { reserve = needs.reserve; size = size })) (after_none book) (record { reserve_is = suits.reserve_is; within = omega (arith, is) })

module _ {T : Type 0} (seen : T → Contents) (may_leave : T → Contents → Type 0) (j : Journal T) where
  -- one more batch is held: behind the others, or alone behind a checkpoint
  pub holds_batch : (base last : ℕ) (stamp : List ℕ) (start book : BookView) (bs held : List (List Act)) (acts : List Act) (due : Bool)
      → (due ≡ false → IsAhead j.figures j.held (seen j.twin) (may_leave j.twin) stamp start bs (held ++ acts ∷ []))
      → (due ≡ true → (renewed : List ℕ) × IsAhead j.figures j.held (seen j.twin) (may_leave j.twin) renewed book [] (acts ∷ []))
      → j.figures.base ≡ (if due then last else base) → Suits j.needs (effects book acts) → book_after start (bs ++ held) ≡ book
      → Holds seen may_leave j base start bs (held ++ acts ∷ []) ⊎ Holds seen may_leave j last book [] (acts ∷ [])
  holds_batch base last stamp start book bs held acts false behind alone is suits leaves = inl (record {
    stamp = stamp;
    ahead = behind refl;
    base_is = is;
    suits = subst (Suits j.needs) (book_with start book bs held acts leaves) suits;
  })
  holds_batch base last stamp start book bs held acts true behind alone is suits leaves = inr (record {
    stamp = (alone refl).0;
    ahead = (alone refl).1;
    base_is = is;
    suits = subst (Suits j.needs) (book_with_one book acts) suits;
  })

-- a checkpoint with nothing held: either side is the active one
pub either_side : {T : Type 0} (moment : T → ℕ) (left_since : T → ℕ → Contents → Type 0) (base same last : ℕ) (start book : BookView) (bs : List (List Act)) (old new : T) → base ≡ same
    → LeavesOnly moment left_since old new (λ d. TwinHolds d base start bs ⊎ TwinHolds d base start (bs ++ []) ⊎ TwinHolds d last book [])
    → LeavesOnly moment left_since old new (λ d. TwinHolds d same start bs ⊎ TwinHolds d last book [])
either_side moment left_since base same last start book bs old new is run =
    widened moment left_since old new _ (λ d. TwinHolds d same start bs ⊎ TwinHolds d last book []) run
    (λ d. ⊎_elim (λ before. inl (subst (λ (n : ℕ). TwinHolds d n start bs) is before))
    (⊎_elim (λ all. inl (subst (λ (n : ℕ). TwinHolds d n start bs) is (subst (λ (xs : List (List Act)). TwinHolds d base start xs) (append-nil bs) all))) (λ renewed. inr renewed)))

-- a journal that holds nothing keeps its batches
pub nothing_held : {T : Type 0} (seen : T → Contents) (may_leave : T → Contents → Type 0) (j : Journal T) (base : ℕ) (start : BookView) (bs held : List (List Act)) → Holds seen may_leave j base start bs held → held ≡ []
    → Keeps seen may_leave j base start (bs ++ held)
nothing_held seen may_leave j base start bs held h none =
    let level : j.held.ahead ≡ j.figures = sym (ahead_is j.figures j.held held h.ahead.are_held) ∙ none_more j.figures j.held held h.ahead.are_held none in
    record {
      stamp = h.stamp;
      at = subst (λ (f : Figures). IsAt f (seen j.twin) (may_leave j.twin) h.stamp start (bs ++ held)) (none_more j.figures j.held held h.ahead.are_held none) (none_written j.figures j.held (seen j.twin) (may_leave j.twin) h.stamp start bs held h.ahead none);
      none_held = h.ahead.are_held.bytes ∙ no_bytes_held held none;
      level = level;
      base_is = h.base_is;
      suits = h.suits;
    }

-- the one batch that is held is the next one of a book
module _ {T : Type 0} (seen : T → Contents) (may_leave : T → Contents → Type 0) (j : Journal T) (base count : ℕ) (start book : BookView) (bs : List (List Act)) (acts : List Act)
    (h : Holds seen may_leave j base start bs (acts ∷ [])) (leaves : book_after start bs ≡ book) (counts : batch_count j ≡ count + 1) where
  written_is : written_count j ≡ count
  written_is = omega (arith, counts, last_is j.figures j.held (acts ∷ []) h.ahead.are_held)

  -- a crash while it is written leaves the journal before it, or the one with it
  pub next_or_not : (d : Contents) → HoldsAt d (book_after start bs) (written_count j) ⊎ HoldsUpTo d (book_after start (bs ++ acts ∷ [])) (batch_count j) (last_of (acts ∷ [])) → BeforeOrAfter book count acts d
  next_or_not d either =
      ⊎_elim
      (λ before. inl (subst (λ (b : BookView). HoldsAt d b count) leaves (subst (λ (n : ℕ). HoldsAt d (book_after start bs) n) written_is before)))
      (λ after. inr (subst (λ (b : BookView). HoldsUpTo d b (count + 1) acts) (book_more start bs acts ∙ ap (λ (b : BookView). effects b acts) leaves)
      (subst (λ (n : ℕ). HoldsUpTo d (book_after start (bs ++ acts ∷ [])) n acts) counts after))) either

-- What a crash leaves while one batch is appended: first it is held, then it is written.
module _ {T : Type 0} (seen : T → Contents) (may_leave : T → Contents → Type 0) (moment : T → ℕ) (left_since : T → ℕ → Contents → Type 0) (old mid : Journal T) (book : BookView) (acts : List Act)
    (kept : KeepsBook seen may_leave old book)
    (first : (b : BookView) → HoldsBook seen may_leave old b book → LeavesOnly moment left_since old.twin mid.twin (λ d. HoldsAt d b (written_count old) ⊎ HoldsAt d book (batch_count old))) where
  -- until it is held
  pub not_yet : LeavesOnly moment left_since old.twin mid.twin (BeforeOrAfter book (batch_count old) acts)
  not_yet =
      widened moment left_since old.twin mid.twin (λ d. HoldsAt d book (written_count old) ⊎ HoldsAt d book (batch_count old)) (BeforeOrAfter book (batch_count old) acts) (first book (kept_is_held seen may_leave old book kept))
      (λ d either. inl (⊎_elim (λ files. subst (λ (n : ℕ). HoldsAt d book n) (ap (λ (f : Figures). f.last) (sym kept.keeps.level)) files) (λ all. all) either))

  -- until it is written
  pub then_written : (new : T) → batch_count mid ≡ batch_count old + 1
      → ((base : ℕ) (start : BookView) (bs held : List (List Act)) → Holds seen may_leave old base start bs held → book_after start (bs ++ held) ≡ book
      → Holds seen may_leave mid base start bs (held ++ acts ∷ []) ⊎ Holds seen may_leave mid (batch_count old) book [] (acts ∷ []))
      → ((base : ℕ) (start : BookView) (bs held : List (List Act)) → Holds seen may_leave mid base start bs held
      → LeavesOnly moment left_since mid.twin new (λ d. HoldsAt d (book_after start bs) (written_count mid) ⊎ HoldsUpTo d (book_after start (bs ++ held)) (batch_count mid) (last_of held)))
      → LeavesOnly moment left_since old.twin new (BeforeOrAfter book (batch_count old) acts)
  then_written new counts done second =
      joined moment left_since old.twin mid.twin new (BeforeOrAfter book (batch_count old) acts) not_yet
      (⊎_elim
      (λ h. by kept.base kept.start kept.batches h (sym kept.leaves))
      (λ h. by (batch_count old) book [] h (sym (after_none book)))
      (done kept.base kept.start kept.batches [] (keeps_holds seen may_leave old kept.base kept.start kept.batches kept.keeps) (ap (book_after kept.start) (append-nil kept.batches) ∙ sym kept.leaves)))
    where
      by : (base : ℕ) (start : BookView) (bs : List (List Act)) → Holds seen may_leave mid base start bs (acts ∷ []) → book_after start bs ≡ book → LeavesOnly moment left_since mid.twin new (BeforeOrAfter book (batch_count old) acts)
      by base start bs h leaves =
          widened moment left_since mid.twin new _ (BeforeOrAfter book (batch_count old) acts) (second base start bs (acts ∷ []) h) (next_or_not seen may_leave mid base (batch_count old) start book bs acts h leaves counts)
