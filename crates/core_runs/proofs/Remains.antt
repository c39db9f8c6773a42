-- What a crash leaves while groups of events are run.
use Rattle.std.proofs.Common.{◌≡◌, ◌∙◌, ap, refl, sym, subst, ℕ, ◌+◌, suc, List, [], ◌∷◌, ◌++◌, ◌≤◌, length, length-append, append-nil, arith}
use Rattle.std.specs.Prelude.{◌≢◌}
use Rattle.disk_core.specs.Disk.{LeavesOnly}
use Rattle.disk_core.specs.DiskLaws.{widened, joined}
use Rattle.disk_core.specs.Twin.{Contents}
use Rattle.book_model.specs.Book.{BookView}
use Rattle.journal_store.specs.Store.{OpensTo, Stands, twin_of}
use Rattle.journal_store.specs.declared.store.Store.{Store}
use Rattle.journal_store.proofs.Moments.{left_opens, unmoved}
use Rattle.router_trace.specs.declared.event.Event.{Event}
use Rattle.router_trace.specs.Trace.{Entry}
use Rattle.reply_rows.specs.Acts.{book_in}
use Rattle.router_core.specs.declared.router.Core.{Core}
use Rattle.router_core.specs.Handling.{Fits, id_of, store_of, kept_book}
use Rattle.core_runs.specs.declared.driving.Sent.{Sent}
use Rattle.core_runs.specs.Leaving.{IsWithin, LeftWithin, next_group, IsLeftAfter, LeftBy}
use Rattle.core_runs.specs.Runs.{MaySteps, Run}

-- a list with more behind it is another
more_items : (xs zs : List Sent) (y : Sent) (ys : List Sent) → zs ≡ xs ++ y ∷ ys → zs ≡ xs → ⊥
more_items xs zs y ys more same = longer (length xs) (length ys) (sym (ap (λ (vs : List Sent). length vs) same) ∙ ap (λ (vs : List Sent). length vs) more ∙ length-append xs (y ∷ ys))
  where
    longer : (n m : ℕ) → n ≡ n + suc m → ⊥
    longer n m h = omega arith

-- items were taken after the group that met a fault
pub some_items : (xs zs ys : List Sent) → zs ≡ xs ++ ys → ys ≢ [] → zs ≢ xs
some_items xs zs [] are some same = some refl
some_items xs zs (y ∷ ys) are some same = more_items xs zs y ys are same

-- the book of a trace, before any event of these
pub within_none : (id : List ℕ) (t : List Entry) (es : List Event) (b : BookView) → b ≡ book_in t → IsWithin id t es b
within_none id t es b is = record { first = []; others = es; are = refl; end = t; steps = refl; book = is }

module _ {T : Type 0} (seen : T → Contents) (may_leave : T → Contents → Type 0) (moment : T → ℕ) (left_since : T → ℕ → Contents → Type 0) where
  -- before the first group
  pub first_moment : ((twin : T) (c : Contents) → left_since twin (moment twin) c → may_leave twin c) → (core : Core T) (t : List Entry) (groups : List (List Event)) → Fits core t
      → Stands seen may_leave (store_of core) → LeavesOnly moment left_since (twin_of (store_of core)) (twin_of (store_of core)) (LeftBy (id_of core) t groups)
  first_moment only_now core t groups f stands =
      widened moment left_since _ _ _ _ (unmoved seen may_leave moment left_since only_now (store_of core) (twin_of (store_of core)) refl stands)
      (λ contents opens. (
        kept_book core,
        opens,
        record {
          first = [];
          rest = groups;
          are = refl;
          taken = [];
          mid = t;
          run = (refl, refl);
          within = within_none (id_of core) t (next_group groups) (kept_book core) f.journal.book;
        },
      ))

  -- one group more
  pub next_moment : (start mid new : T) (id other : List ℕ) (t : List Entry) (groups first : List (List Event)) (taken : List Sent) (m : List Entry) (es : List Event) (rest : List (List Event))
      → other ≡ id → groups ≡ first ++ es ∷ rest → Run id 0 t first taken m → LeavesOnly moment left_since start mid (LeftBy id t groups)
      → LeavesOnly moment left_since mid new (LeftWithin other m es) → LeavesOnly moment left_since start new (LeftBy id t groups)
  next_moment start mid new id other t groups first taken m es rest same are run so_far now =
      joined moment left_since start mid new (LeftBy id t groups) so_far
      (widened moment left_since mid new (LeftWithin other m es) (LeftBy id t groups) now (λ contents left. (
        left.0,
        left.1,
        record {
          first = first;
          rest = es ∷ rest;
          are = are;
          taken = taken;
          mid = m;
          run = run;
          within = subst (λ (i : List ℕ). IsWithin i m es left.0) same left.2;
        },
      )))

  -- what is left after a group that was handled and written
  pub opens_after : (heard new : Core T) (u : List Entry) → Fits heard u → Stands seen may_leave (store_of heard) → store_of new ≡ store_of heard
      → (contents : Contents) → may_leave (twin_of (store_of new)) contents → OpensTo contents (book_in u)
  opens_after heard new u f stands same contents left =
      subst (λ (b : BookView). OpensTo contents b) f.journal.book
      (left_opens seen may_leave (store_of heard) contents stands (subst (λ (s : Store T). may_leave (twin_of s) contents) same left))

  -- what is left at the end, where a group met a fault and these items were taken after it
  pub left_after : ((twin : T) (t : ℕ) (c : Contents) → t ≤ moment twin → may_leave twin c → left_since twin t c) → (mid new : T) (id other : List ℕ) (t : List Entry)
      (groups first : List (List Event)) (taken : List Sent) (m : List Entry) (es : List Event) (rest : List (List Event)) (handled : ℕ) (xs last : List Sent)
      → other ≡ id → groups ≡ first ++ es ∷ rest → handled ≡ length first → Run id 0 t first taken m → xs ≡ taken ++ last
      → LeavesOnly moment left_since mid new (LeftWithin other m es) → (contents : Contents) → may_leave new contents
      → (last ≢ [] → (u : List Entry) × MaySteps other m es u × OpensTo contents (book_in u)) → IsLeftAfter id t groups handled xs contents
  left_after counts_now mid new id other t groups first taken m es rest handled xs last same are count run items now contents left behind = by last items behind
    where
      at : (ys : List Sent) → xs ≡ taken ++ ys → (b : BookView) (within : IsWithin id m es b) → (ys ≢ [] → within.others ≡ []) → OpensTo contents b → IsLeftAfter id t groups handled xs contents
      at ys is b within answered opens = record {
        book = b;
        left = record { first = first; rest = es ∷ rest; are = are; taken = taken; mid = m; run = run; within = within };
        count = count;
        last = ys;
        items = is;
        answered = answered;
        opens = opens;
      }

      by : (ys : List Sent) → xs ≡ taken ++ ys → (ys ≢ [] → (u : List Entry) × MaySteps other m es u × OpensTo contents (book_in u)) → IsLeftAfter id t groups handled xs contents
      by [] is opens =
          let some = now.each contents (counts_now new (moment mid) contents now.later left) in
          at [] is some.0 (subst (λ (i : List ℕ). IsWithin i m es some.0) same some.2) (λ taken. absurd (taken refl)) some.1
      by (y ∷ ys) is opens =
          let all = opens (λ none. absurd cc) in
          let steps : MaySteps id m es all.0 = subst (λ (i : List ℕ). MaySteps i m es all.0) same all.1 in
          at (y ∷ ys) is (book_in all.0) (record { first = es; others = []; are = sym (append-nil es); end = all.0; steps = steps; book = refl }) (λ taken. refl) all.2
