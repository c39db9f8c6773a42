-- What a journal says of the book that a call gives it, of the store's book, which is the same.
use Rattle.std.proofs.Common.{◌≡◌, ◌≢◌, ◌⊎◌, inl, inr, ⊎_elim, ◌∙◌, sym, ap, refl, subst, ℕ, Bool, List, [], ◌∷◌, ◌++◌, None, Result, Ok, Err}
use Rattle.std.specs.Prelude.{if◌then◌else◌, IfOk, IsTrue, ◌↔◌}
use Rattle.disk_core.specs.Disk.{LeavesOnly}
use Rattle.disk_core.specs.DiskLaws.{widened}
use Rattle.disk_core.specs.Twin.{Contents}
use Rattle.book_model.specs.declared.act.Act.{Act}
use Rattle.book_model.specs.Book.{BookView, effects, first_fault}
use Rattle.journal_codec.specs.Batches.{book_after}
use Rattle.gate_journal.proofs.Fronts.{book_more}
use Rattle.gate_journal.specs.Reserve.{reserve}
use Rattle.twin_journal.specs.declared.journal.Journal.{Journal}
use Rattle.twin_journal.specs.Holding.{BeforeOrAfter, HoldsAt}
use Rattle.twin_journal.specs.Journal.{Holds, HoldsBook, Keeps, KeepsBook, SuitsBook, is_due_in}
use Rattle.twin_journal.specs.Room.{IsFull}
use Rattle.twin_journal.proofs.Ahead.{book_with, book_with_one}
use Rattle.twin_journal.proofs.Fulls.{tested_by}
use Rattle.twin_journal.proofs.Kept.{after_none, counted_opens}
use Rattle.journal_store.specs.Store.{OpensTo, exceeds}
use Rattle.journal_store.proofs.Writing.{some_exceed}

after_one : (b : BookView) (acts : List Act) → effects b acts ≡ book_after b (acts ∷ [])
unfolding book_after
after_one b acts = refl

module _ (given b : BookView) (acts : List Act) (same : given ≡ b) where
  -- at every moment of a write
  pub moments : {T : Type 0} (moment : T → ℕ) (left_since : T → ℕ → Contents → Type 0) (seen : T → Contents) (may_leave : T → Contents → Type 0) (j : Journal T) (old new : T)
      → (KeepsBook seen may_leave j given → LeavesOnly moment left_since old new (λ c. OpensTo c given ⊎ OpensTo c (effects given acts)))
      → KeepsBook seen may_leave j b → LeavesOnly moment left_since old new (λ c. OpensTo c b ⊎ OpensTo c (effects b acts))
  moments moment left_since seen may_leave j old new said =
      subst (λ (x : BookView). KeepsBook seen may_leave j x → LeavesOnly moment left_since old new (λ c. OpensTo c x ⊎ OpensTo c (effects x acts))) same said

  pub journal_moments : {T : Type 0} (moment : T → ℕ) (left_since : T → ℕ → Contents → Type 0) (seen : T → Contents) (may_leave : T → Contents → Type 0) (j : Journal T) (count : ℕ) (old new : T)
      → (KeepsBook seen may_leave j given → LeavesOnly moment left_since old new (BeforeOrAfter given count acts))
      → KeepsBook seen may_leave j b → LeavesOnly moment left_since old new (BeforeOrAfter b count acts)
  journal_moments moment left_since seen may_leave j count old new said =
      subst (λ (x : BookView). KeepsBook seen may_leave j x → LeavesOnly moment left_since old new (BeforeOrAfter x count acts)) same said

  -- after it: the batch is behind the others, or alone behind a checkpoint
  pub stands_after : {T : Type 0} (seen : T → Contents) (may_leave : T → Contents → Type 0) (j new : Journal T) (last : ℕ) (after : BookView) → after ≡ effects b acts
      → ((base : ℕ) (start : BookView) (bs : List (List Act)) → Keeps seen may_leave j base start bs → book_after start bs ≡ given
      → Keeps seen may_leave new base start (bs ++ acts ∷ []) ⊎ Keeps seen may_leave new last given (acts ∷ []))
      → KeepsBook seen may_leave j b → KeepsBook seen may_leave new after
  stands_after seen may_leave j new last after is done k =
      ⊎_elim
      (λ behind. record {
        base = k.base;
        start = k.start;
        batches = k.batches ++ acts ∷ [];
        keeps = behind;
        leaves = is ∙ ap (λ (x : BookView). effects x acts) k.leaves ∙ sym (book_more k.start k.batches acts);
      })
      (λ alone. record {
        base = last;
        start = given;
        batches = acts ∷ [];
        keeps = alone;
        leaves = is ∙ ap (λ (x : BookView). effects x acts) (sym same) ∙ after_one given acts;
      })
      (done k.base k.start k.batches k.keeps (sym k.leaves ∙ sym same))

  -- at every moment of a hold
  pub held_moments : {T : Type 0} (moment : T → ℕ) (left_since : T → ℕ → Contents → Type 0) (seen : T → Contents) (may_leave : T → Contents → Type 0) (j : Journal T) (old new : T) (kept : BookView) (written count : ℕ)
      → ((x : BookView) → HoldsBook seen may_leave j x given → LeavesOnly moment left_since old new (λ c. HoldsAt c x written ⊎ HoldsAt c given count))
      → HoldsBook seen may_leave j kept b → LeavesOnly moment left_since old new (λ c. OpensTo c kept ⊎ OpensTo c b)
  held_moments moment left_since seen may_leave j old new kept written count said h =
      widened moment left_since old new (λ c. HoldsAt c kept written ⊎ HoldsAt c b count) (λ c. OpensTo c kept ⊎ OpensTo c b)
      (subst (λ (x : BookView). HoldsBook seen may_leave j kept x → LeavesOnly moment left_since old new (λ c. HoldsAt c kept written ⊎ HoldsAt c x count)) same (said kept) h)
      (λ c. ⊎_elim (λ files. inl (counted_opens c kept written files.0 files.1)) (λ all. inr (counted_opens c b count all.0 all.1)))

  -- after it: the batch is held behind the others, or alone behind a checkpoint
  pub behind_after : {T : Type 0} (seen : T → Contents) (may_leave : T → Contents → Type 0) (j new : Journal T) (last : ℕ) (after kept : BookView) → after ≡ effects b acts
      → ((base : ℕ) (start : BookView) (bs held : List (List Act)) → Holds seen may_leave j base start bs held → book_after start (bs ++ held) ≡ given
      → Holds seen may_leave new base start bs (held ++ acts ∷ []) ⊎ Holds seen may_leave new last given [] (acts ∷ []))
      → HoldsBook seen may_leave j kept b → HoldsBook seen may_leave new kept after ⊎ HoldsBook seen may_leave new b after
  behind_after seen may_leave j new last after kept is done h =
      ⊎_elim
      (λ more. inl (record {
        base = h.base;
        start = h.start;
        batches = h.batches;
        held = h.held ++ acts ∷ [];
        holds = more;
        kept_is = h.kept_is;
        leaves = is ∙ book_with h.start b h.batches h.held acts (sym h.leaves);
      }))
      (λ alone. inr (record {
        base = last;
        start = given;
        batches = [];
        held = acts ∷ [];
        holds = alone;
        kept_is = sym same ∙ sym (after_none given);
        leaves = is ∙ ap (λ (x : BookView). effects x acts) (sym same) ∙ book_with_one given acts;
      }))
      (done h.base h.start h.batches h.held h.holds (sym h.leaves ∙ sym same))

  pub suits_after : {T : Type 0} (j new : Journal T) (after : BookView) → after ≡ effects b acts → (SuitsBook j given → SuitsBook new (effects given acts)) → SuitsBook j b → SuitsBook new after
  suits_after j new after is said suits =
      subst (SuitsBook new) (ap (λ (x : BookView). effects x acts) same ∙ sym is) (said (subst (SuitsBook j) (sym same) suits))

  pub base_after_it : {T : Type 0} (j : Journal T) (base last lower : ℕ)
      → (SuitsBook j given → base ≡ (if is_due_in j acts (reserve (effects given acts)) then last else lower))
      → SuitsBook j b → base ≡ (if is_due_in j acts (reserve (effects b acts)) then last else lower)
  base_after_it j base last lower said =
      subst (λ (x : BookView). SuitsBook j x → base ≡ (if is_due_in j acts (reserve (effects x acts)) then last else lower)) same said

  -- where it is too much, and where it isn't
  pub full_of : {T : Type 0} (j : Journal T) → (SuitsBook j given → IsFull given acts) → SuitsBook j b → IsFull b acts
  full_of j said = subst (λ (x : BookView). SuitsBook j x → IsFull x acts) same said

  pub room_of : {T : Type 0} (j : Journal T) → (SuitsBook j given → IsFull given acts → ⊥) → SuitsBook j b → IsFull b acts → ⊥
  room_of j said = subst (λ (x : BookView). SuitsBook j x → IsFull x acts → ⊥) same said

  pub untouched_by : {T : Type 0} (j : Journal T) (old new : T) → (SuitsBook j given → IsFull given acts → new ≡ old) → SuitsBook j b → IsFull b acts → new ≡ old
  untouched_by j old new said = subst (λ (x : BookView). SuitsBook j x → IsFull x acts → new ≡ old) same said

  -- what it tells of a test
  pub told_by : {T E : Type 0} (j : Journal T) (r : Result Bool E) → acts ≢ []
      → IfOk r (λ full. first_fault given acts ≡ None → SuitsBook j given → IsTrue full ↔ IsFull given acts)
      → IfOk r (λ full. first_fault b acts ≡ None → SuitsBook j b → full ≡ exceeds b acts)
  told_by j (Err e) some said = tt
  told_by j (Ok full) some said = λ applies suits.
      tested_by b acts full
      (subst (λ (x : BookView). first_fault x acts ≡ None → SuitsBook j x → IsTrue full ↔ IsFull x acts) same said applies suits)
      ∙ sym (some_exceed b acts some)
