-- How far a group has come, while its batches are held: the files keep the book after some first ones of its events.
use Rattle.std.proofs.Common.{◌≡◌, ◌∙◌, sym, ap, refl, subst, ◌⊎◌, ⊎_elim, ℕ, true, false, List, [], ◌∷◌, ◌++◌, append_assoc, append-nil}
use Rattle.disk_core.specs.Disk.{LeavesOnly}
use Rattle.disk_core.specs.DiskLaws.{joined, started, widened}
use Rattle.disk_core.specs.Twin.{Contents}
use Rattle.book_model.specs.Book.{BookView}
use Rattle.twin_journal.specs.Keeping.{held_opens, kept_is_held}
use Rattle.journal_store.specs.Store.{Stands, StandsBehind, journal_of, twin_of}
use Rattle.router_trace.specs.declared.event.Event.{Event}
use Rattle.router_trace.specs.Trace.{Entry}
use Rattle.router_core.specs.declared.router.Core.{Core}
use Rattle.router_core.specs.Handling.{Fits, id_of, is_failed, kept_book, store_of}
use Rattle.core_runs.specs.Leaving.{IsWithin, LeftWithin}
use Rattle.core_runs.specs.Runs.{MayStep, MaySteps}
use Rattle.router_core.proofs.Moments.{EitherOpens}
use Rattle.core_runs.proofs.Remains.{within_none}
use Rattle.core_runs.proofs.RunLemmas.{steps_more}

pub works_or_not : true ≡ false → ⊥
works_or_not is = cc

module _ {T : Type 0} (seen : T → Contents) (may_leave : T → Contents → Type 0) (moment : T → ℕ) (left_since : T → ℕ → Contents → Type 0) (failures : T → ℕ) where
  -- of these events some first ones were handled or declined, one after another, and these are left
  pub record IsPartway (es : List Event) (old : Core T) (left : List Event) (now : Core T) : Type 0 where
    pub past : (t : List Entry) → Fits old t → (first : List Event) × (m : List Entry) × (es ≡ first ++ left) × MaySteps (id_of old) t first m × Fits now m
    pub works : is_failed now ≡ true → is_failed old ≡ true
    pub named : id_of now ≡ id_of old
    pub behind : Stands seen may_leave (store_of old) → (kept : BookView) × StandsBehind seen may_leave (store_of now) kept
    pub kept : (t : List Entry) → Fits old t → Stands seen may_leave (store_of old)
        → (kept : BookView) × IsWithin (id_of old) t es kept × StandsBehind seen may_leave (store_of now) kept
    pub moments : (t : List Entry) → Fits old t → Stands seen may_leave (store_of old)
        → LeavesOnly moment left_since (twin_of (store_of old)) (twin_of (store_of now)) (LeftWithin (id_of old) t es)
    pub same_failures : failures (twin_of (store_of now)) ≡ failures (twin_of (store_of old))

  -- no event yet
  held_now : (core : Core T) → Stands seen may_leave (store_of core) → StandsBehind seen may_leave (store_of core) (kept_book core)
  held_now core stands = kept_is_held seen may_leave (journal_of (store_of core)) (kept_book core) stands

  pub none_yet : ((twin : T) (c : Contents) → left_since twin (moment twin) c → may_leave twin c) → (es left : List Event) (old : Core T) → es ≡ left → IsPartway es old left old
  none_yet only_now es left old all = record {
    past = λ t f. ([], t, all, refl, f);
    works = λ failed. failed;
    named = refl;
    behind = λ stands. (kept_book old, held_now old stands);
    kept = λ t f stands. (kept_book old, within_none (id_of old) t es (kept_book old) f.journal.book, held_now old stands);
    moments = λ t f stands.
        started moment left_since (twin_of (store_of old)) (LeftWithin (id_of old) t es)
        (λ c left. (
          kept_book old,
          held_opens seen may_leave (journal_of (store_of old)) (kept_book old) (kept_book old) c (held_now old stands) (only_now (twin_of (store_of old)) c left),
          within_none (id_of old) t es (kept_book old) f.journal.book,
        ));
    same_failures = refl;
  }

  -- the book of a router that has come so far
  now_within : (es : List Event) (old : Core T) (left : List Event) (now : Core T) → IsPartway es old left now → (t : List Entry) → Fits old t → IsWithin (id_of old) t es (kept_book now)
  now_within es old left now far t f =
      let w = far.past t f in
      record { first = w.0; others = left; are = w.2; end = w.1; steps = w.3; book = w.4.journal.book }

  -- whatever the next call answers, a crash leaves the book after some first events
  pub next_within : (es : List Event) (old : Core T) (left : List Event) (now new : Core T) → IsPartway es old left now
      → ((kept : BookView) → StandsBehind seen may_leave (store_of now) kept → LeavesOnly moment left_since (twin_of (store_of now)) (twin_of (store_of new)) (EitherOpens kept (kept_book now)))
      → (t : List Entry) → Fits old t → Stands seen may_leave (store_of old)
      → LeavesOnly moment left_since (twin_of (store_of old)) (twin_of (store_of new)) (LeftWithin (id_of old) t es)
  next_within es old left now new far run t f stands =
      let k = far.kept t f stands in
      joined moment left_since (twin_of (store_of old)) (twin_of (store_of now)) (twin_of (store_of new)) (LeftWithin (id_of old) t es) (far.moments t f stands)
      (widened moment left_since (twin_of (store_of now)) (twin_of (store_of new)) (EitherOpens k.0 (kept_book now)) (LeftWithin (id_of old) t es) (run k.0 k.2)
      (λ contents opens. ⊎_elim (λ x. (k.0, x, k.1)) (λ x. (kept_book now, x, now_within es old left now far t f)) opens))

  -- one event more
  pub one_further : (es : List Event) (old : Core T) (left : List Event) (now : Core T) (e : Event) (rest : List Event) (new : Core T) → IsPartway es old left now → left ≡ e ∷ rest
      → ((t : List Entry) → Fits now t → (u : List Entry) × MayStep (id_of now) t e u × Fits new u)
      → (is_failed new ≡ true → is_failed now ≡ true)
      → id_of new ≡ id_of now
      → ((kept : BookView) → StandsBehind seen may_leave (store_of now) kept → StandsBehind seen may_leave (store_of new) kept ⊎ StandsBehind seen may_leave (store_of new) (kept_book now))
      → ((kept : BookView) → StandsBehind seen may_leave (store_of now) kept → LeavesOnly moment left_since (twin_of (store_of now)) (twin_of (store_of new)) (EitherOpens kept (kept_book now)))
      → failures (twin_of (store_of new)) ≡ failures (twin_of (store_of now))
      → IsPartway es old rest new
  one_further es old left now e rest new far next fits works named behind run same = record {
    past = λ t f.
        let w = far.past t f in
        let u = fits w.1 w.4 in
        let step : MayStep (id_of old) w.1 e u.0 = subst (λ (id : List ℕ). MayStep id w.1 e u.0) far.named u.1 in (
          w.0 ++ e ∷ [],
          u.0,
          w.2 ∙ ap (λ (xs : List Event). w.0 ++ xs) next ∙ sym (append_assoc w.0 (e ∷ []) rest),
          steps_more (id_of old) t w.1 u.0 w.0 e w.3 step,
          u.2,
        );
    works = λ failed. far.works (works failed);
    named = named ∙ far.named;
    behind = λ stands.
        let k = far.behind stands in
        ⊎_elim (λ still. (k.0, still)) (λ moved. (kept_book now, moved)) (behind k.0 k.1);
    kept = λ t f stands.
        let k = far.kept t f stands in
        ⊎_elim (λ still. (k.0, k.1, still)) (λ moved. (kept_book now, now_within es old left now far t f, moved)) (behind k.0 k.2);
    moments = λ t f stands. next_within es old left now new far run t f stands;
    same_failures = same ∙ far.same_failures;
  }

  -- none is left, and the router that has written what it held is the same
  pub all_gone : (es : List Event) (old : Core T) (left : List Event) (now new : Core T) → IsPartway es old left now → left ≡ [] → ((t : List Entry) → Fits now t → Fits new t)
      → (t : List Entry) → Fits old t → (u : List Entry) × MaySteps (id_of old) t es u × Fits new u
  all_gone es old left now new far none fits t f =
      let w = far.past t f in
      let all : es ≡ w.0 = w.2 ∙ ap (λ (xs : List Event). w.0 ++ xs) none ∙ append-nil w.0 in
      (w.1, subst (λ (xs : List Event). MaySteps (id_of old) t xs w.1) (sym all) w.3, fits w.1 w.4)
