-- What a core does, in the words of the trait that it is used through.
use Rattle.std.proofs.Common.{◌≡◌, ◌∙◌, sym, ap, refl, subst, inl, inr, ◌⊎◌, ⊎_elim, ℕ, ◌+◌, ◌≤◌, List, [], ◌∷◌, Result, Ok, Err, OnOk, OnErr, IfOk}
use Rattle.disk_core.specs.Disk.{LeavesOnly}
use Rattle.disk_core.specs.Twin.{Contents}
use Rattle.book_model.specs.declared.act.Act.{Act}
use Rattle.book_model.specs.Book.{BookView}
use Rattle.twin_journal.specs.Holding.{BeforeOrAfter}
use Rattle.twin_journal.specs.Journal.{batch_count}
use Rattle.journal_store.specs.Store.{Stands, StandsBehind, batches_after, count_of, twin_of, journal_of}
use Rattle.journal_store.specs.declared.store.Store.{Store}
use Rattle.router_trace.specs.declared.event.Event.{Event}
use Rattle.router_trace.specs.Trace.{Entry, step_of}
use Rattle.reply_rows.specs.Acts.{Journaled, acts_of, book_after_event, book_in, booked, journaled}
use Rattle.core_machine.specs.Meaning.{BookAt, EitherOf, KeptAt}
use Rattle.router_core.specs.declared.router.Core.{Core}
use Rattle.router_core.specs.Handling.{BeforeOrAfterEvent, Fits, kept_book, store_of}
use Rattle.router_core.specs.Machine.{HoldsBehind, KeepsBook, LeavesBook, LeavesKept, core_meaning}
use Rattle.router_core.specs.Replies.{Replies, handled}
use Rattle.router_core.proofs.Books.{view_answered}
use Rattle.router_core.proofs.Moments.{EitherOpens}

-- what holds of any answer Ok, from what holds of it
pub on_ok : {A E : Type 0} (r : Result A E) {P Q : Type 0} → (P → Q) → OnOk r P → OnOk r Q
on_ok (Ok x) f is = f is
on_ok (Err e) f is = is

pub on_ok_both : {A E : Type 0} (r : Result A E) {P Q R : Type 0} → (P → Q → R) → OnOk r P → OnOk r Q → OnOk r R
on_ok_both (Ok x) f is also = f is also
on_ok_both (Err e) f is also = is

pub if_ok : {A E : Type 0} (r : Result A E) (Q : A → Type 0) → ((x : A) → Q x) → IfOk r Q
if_ok (Ok x) Q f = f x
if_ok (Err e) Q f = tt

pub if_ok_weaker : {A E : Type 0} (r : Result A E) (P Q : A → Type 0) → ((x : A) → P x → Q x) → IfOk r P → IfOk r Q
if_ok_weaker (Ok x) P Q f is = f x is
if_ok_weaker (Err e) P Q f is = tt

pub on_err : {A E : Type 0} (r : Result A E) (Q : Type 0) → Q → OnErr r Q
on_err (Ok x) Q is = tt
on_err (Err e) Q is = is

-- the trace after the event is the one that the definitions give
pub fits_next : {T : Type 0} (new : Core T) (id : List ℕ) (t : List Entry) (e : Event) → (u : List Entry) × Replies id t (step_of e) u × Fits new u → Fits new (handled id t (step_of e))
fits_next new id t e more = subst (λ (u : List Entry). Fits new u) more.1.answers more.2

-- the journal has one batch more exactly if there are acts
one_more : (old new : ℕ) (acts : List Act) → new ≡ batches_after old acts → (new ≡ old) ⊎ (new ≡ old + 1)
one_more old new [] is = inl is
one_more old new (act ∷ acts) is = inr is

pub batches_next : {T : Type 0} (old new : Core T) (id : List ℕ) (t : List Entry) (e : Event) → Fits old t → Fits new (handled id t (step_of e))
    → (batch_count (journal_of (store_of new)) ≡ batch_count (journal_of (store_of old))) ⊎ (batch_count (journal_of (store_of new)) ≡ batch_count (journal_of (store_of old)) + 1)
batches_next old new id t e before after =
    one_more (batch_count (journal_of (store_of old))) (batch_count (journal_of (store_of new))) (acts_of t e)
    (after.journal.batches ∙ ap (λ (j : Journaled). j.batches) (view_answered journaled (λ c i u. refl) (λ b u. refl) id (booked t e) e)
    ∙ ap (λ n. batches_after n (acts_of t e)) (sym before.journal.batches))

module _ {T : Type 0} (seen : T → Contents) (may_leave : T → Contents → Type 0) where
  -- the files keep the next book
  pub keeps_next : (old new : Core T) (id : List ℕ) (t : List Entry) (e : Event) → Fits new (handled id t (step_of e))
      → (Stands seen may_leave (store_of old) → Stands seen may_leave (store_of new))
      → KeepsBook seen may_leave old (book_in t) → KeepsBook seen may_leave new (book_in (handled id t (step_of e)))
  keeps_next old new id t e after stands keeps = (stands keeps.0, after.journal.book)

  -- nothing of the journal changes
  pub keeps_on : (old new : Core T) (b : BookView) → store_of new ≡ store_of old → KeepsBook seen may_leave old b → KeepsBook seen may_leave new b
  keeps_on old new b same keeps = (subst (λ (s : Store T). Stands seen may_leave s) (sym same) keeps.0, ap (λ (s : Store T). s.kept.book) same ∙ keeps.1)

  -- the files keep the book that they kept, or the book before the event
  pub holds_next : (old new : Core T) (t : List Entry) → Fits old t
      → ((kept : BookView) → StandsBehind seen may_leave (store_of old) kept → StandsBehind seen may_leave (store_of new) kept ⊎ StandsBehind seen may_leave (store_of new) (kept_book old))
      → (b : BookView) → HoldsBehind seen may_leave old b → HoldsBehind seen may_leave new b ⊎ HoldsBehind seen may_leave new (book_in t)
  holds_next old new t f behind b holds =
      ⊎_elim (λ still. inl still) (λ now. inr (subst (λ (x : BookView). HoldsBehind seen may_leave new x) f.journal.book now)) (behind b holds)

  -- a crash leaves the book that they kept, or the book of the trace
  pub leaves_either : (moment : T → ℕ) (left_since : T → ℕ → Contents → Type 0) → ((twin : T) (t : ℕ) (c : Contents) → t ≤ moment twin → may_leave twin c → left_since twin t c)
      → (old new : Core T) (t : List Entry) (b : BookView) → Fits old t
      → LeavesOnly moment left_since (twin_of (store_of old)) (twin_of (store_of new)) (EitherOpens b (kept_book old))
      → LeavesBook may_leave new (EitherOf b (book_in t))
  leaves_either moment left_since counts_now old new t b f run contents left =
      ⊎_elim (λ opens. (b, opens, inl refl)) (λ opens. (kept_book old, opens, inr f.journal.book))
      (run.each contents (counts_now (twin_of (store_of new)) (moment (twin_of (store_of old))) contents run.later left))

  -- a crash leaves the book before the event, or the book after it
  pub leaves_next : (moment : T → ℕ) (left_since : T → ℕ → Contents → Type 0) → ((twin : T) (t : ℕ) (c : Contents) → t ≤ moment twin → may_leave twin c → left_since twin t c)
      → (failures : T → ℕ) (old new : Core T) (t : List Entry) (e : Event)
      → LeavesOnly moment left_since (twin_of (store_of old)) (twin_of (store_of new)) (BeforeOrAfterEvent t e)
      → LeavesBook may_leave new (BookAt (core_meaning seen may_leave failures) t e)
  leaves_next moment left_since counts_now failures old new t e run contents left =
      ⊎_elim (λ opens. (book_in t, opens, inl refl)) (λ opens. (book_after_event t e, opens, inr refl))
      (run.each contents (counts_now (twin_of (store_of new)) (moment (twin_of (store_of old))) contents run.later left))

  -- a crash leaves the journal before the event, or the one with its batch
  pub journal_next : (moment : T → ℕ) (left_since : T → ℕ → Contents → Type 0) → ((twin : T) (t : ℕ) (c : Contents) → t ≤ moment twin → may_leave twin c → left_since twin t c)
      → (failures : T → ℕ) (old new : Core T) (t : List Entry) (e : Event)
      → LeavesOnly moment left_since (twin_of (store_of old)) (twin_of (store_of new)) (BeforeOrAfter (book_in t) (count_of (store_of old)) (acts_of t e))
      → LeavesKept may_leave new (KeptAt (core_meaning seen may_leave failures) (count_of (store_of old)) t e)
  journal_next moment left_since counts_now failures old new t e run contents left =
      ⊎_elim (λ before. (record { book = book_in t; batches = count_of (store_of old); last = before.0 }, before.1, inl (refl, refl)))
      (λ behind. (record { book = book_after_event t e; batches = count_of (store_of old) + 1; last = acts_of t e }, behind, inr (refl, refl, refl)))
      (run.each contents (counts_now (twin_of (store_of new)) (moment (twin_of (store_of old))) contents run.later left))
