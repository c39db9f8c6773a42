-- Events that are handled one after another, and written together.
use Rattle.std.proofs.Common.{◌≡◌, ◌∙◌, sym, ap, refl, subst, inl, inr, ◌⊎◌, ⊎_elim, ℕ, ◌+◌, true, false, List, [], ◌∷◌, ◌++◌, length, length-append, append_assoc, arith}
use Rattle.std.specs.Prelude.{Ok, Err}
use Rattle.disk_core.specs.Disk.{LeavesOnly}
use Rattle.disk_core.specs.DiskLaws.{joined, started, widened}
use Rattle.disk_core.specs.Twin.{Contents}
use Rattle.book_model.specs.Book.{BookView}
use Rattle.twin_journal.specs.Keeping.{held_opens, kept_is_held}
use Rattle.journal_store.specs.Store.{Stands, StandsBehind, journal_of, twin_of}
use Rattle.router_trace.specs.declared.event.Event.{Event}
use Rattle.router_trace.specs.Trace.{Entry, step_of}
use Rattle.reply_rows.specs.Acts.{book_in}
use Rattle.core_machine.specs.declared.answers.Done.{Done}
use Rattle.core_machine.specs.declared.counts.Counts.{Counts}
use Rattle.core_machine.specs.declared.fault.CoreFault.{CoreFault}
use Rattle.core_machine.specs.Counting.{with_event}
use Rattle.core_machine.specs.Turns.{declines}
use Rattle.router_core.specs.declared.router.Core.{Core}
use Rattle.router_core.specs.Groups.{AreTold, Handles, HandlesGroup, IsFirstBook, IsTold, LeavesFirst, with_events}
use Rattle.router_core.specs.Handling.{Fits, counts_of, id_of, is_failed, kept_book, store_of}
use Rattle.router_core.specs.Replies.{AllInTurn, handled, handled_all}
use Rattle.router_core.proofs.Moments.{EitherOpens}

-- One event more.
handled_more : (id : List ℕ) (t : List Entry) (first : List Event) (e : Event) → handled_all id t (first ++ e ∷ []) ≡ handled id (handled_all id t first) (step_of e)
handled_more id t [] e = refl
handled_more id t (x ∷ xs) e = handled_more id (handled id t (step_of x)) xs e

in_turn_more : (id : List ℕ) (t : List Entry) (first : List Event) (e : Event) → AllInTurn id t first → declines (handled_all id t first) e ≡ false → AllInTurn id t (first ++ e ∷ [])
in_turn_more id t [] e turns is = (is, turns)
in_turn_more id t (x ∷ xs) e turns is = (turns.0, in_turn_more id (handled id t (step_of x)) xs e turns.1 is)

told_more : (id : List ℕ) (t : List Entry) (first : List Event) (ds : List Done) (e : Event) (d : Done) → AreTold id t first ds → IsTold (handled_all id t first) e d
    → AreTold id t (first ++ e ∷ []) (ds ++ d ∷ [])
told_more id t [] [] e d told is = (is, told)
told_more id t [] (y ∷ ys) e d told is = absurd told
told_more id t (x ∷ xs) [] e d told is = absurd told
told_more id t (x ∷ xs) (y ∷ ys) e d told is = (told.0, told_more id (handled id t (step_of x)) xs ys e d told.1 is)

counted_more : (first : List Event) (e : Event) (n : Counts) → with_events (first ++ e ∷ []) n ≡ with_event e (with_events first n)
counted_more [] e n = refl
counted_more (x ∷ xs) e n = counted_more xs e (with_event x n)

handles_more : (id : List ℕ) (t : List Entry) (es first others rest : List Event) (ds more : List Done) (old mid new : Counts) (e : Event) (d : Done) → Handles id t es first others ds old mid
    → others ≡ e ∷ rest → declines (handled_all id t first) e ≡ false → IsTold (handled_all id t first) e d → more ≡ ds ++ d ∷ [] → new ≡ with_event e mid
    → Handles id t es (first ++ e ∷ []) rest more old new
handles_more id t es first others rest ds more old mid new e d h next turn told now counts = record {
  events = h.events ∙ ap (λ (xs : List Event). first ++ xs) next ∙ sym (append_assoc first (e ∷ []) rest);
  in_turn = in_turn_more id t first e h.in_turn turn;
  told = subst (λ (xs : List Done). AreTold id t (first ++ e ∷ []) xs) (sym now) (told_more id t first ds e d h.told told);
  count =
      let behind : length (ds ++ d ∷ []) ≡ length (first ++ e ∷ []) = omega (arith, length-append ds (d ∷ []), length-append first (e ∷ []), h.count)
      in ap (λ (xs : List Done). length xs) now ∙ behind;
  counted = counts ∙ ap (with_event e) h.counted ∙ sym (counted_more first e old);
}

-- nothing yet
handles_none : (id : List ℕ) (t : List Entry) (es : List Event) (ds : List Done) (n : Counts) → ds ≡ [] → Handles id t es [] es ds n n
handles_none id t es ds n none = record {
  events = refl;
  in_turn = tt;
  told = subst (λ (xs : List Done). AreTold id t [] xs) (sym none) tt;
  count = ap (λ (xs : List Done). length xs) none;
  counted = refl;
}

first_book : (id : List ℕ) (t : List Entry) (es first others : List Event) (ds : List Done) (old new : Counts) → Handles id t es first others ds old new
    → IsFirstBook id t es (book_in (handled_all id t first))
first_book id t es first others ds old new h = record { first = first; others = others; events = h.events; in_turn = h.in_turn; book = refl }

-- a list of no items, and an answer that is no fault
pub no_items : {A : Type 0} (xs : List A) → length xs ≡ 0 → xs ≡ []
no_items [] none = refl
no_items (x ∷ xs) none = absurd (omega (arith, none))

pub ok_is_no_fault : {A : Type 0} (x : A) (f : CoreFault) → Ok x ≡ Err f → ⊥
ok_is_no_fault x f is = cc

module _ {T : Type 0} (seen : T → Contents) (may_leave : T → Contents → Type 0) (moment : T → ℕ) (left_since : T → ℕ → Contents → Type 0) (failures : T → ℕ) where
  -- a run more, of which a crash leaves one of two such books
  group_moment : (old mid new : T) (id : List ℕ) (t : List Entry) (es : List Event) (a b : BookView) → IsFirstBook id t es a → IsFirstBook id t es b
      → LeavesOnly moment left_since old mid (LeavesFirst id t es) → LeavesOnly moment left_since mid new (EitherOpens a b) → LeavesOnly moment left_since old new (LeavesFirst id t es)
  group_moment old mid new id t es a b is_a is_b so_far run =
      joined moment left_since old mid new (LeavesFirst id t es) so_far
      (widened moment left_since mid new (EitherOpens a b) (LeavesFirst id t es) run (λ contents opens. ⊎_elim (λ x. (a, x, is_a)) (λ x. (b, x, is_b)) opens))

  -- how far a group has come: of these events so many first ones were handled, and these are left
  pub record IsFar (es : List Event) (old : Core T) (left : List Event) (now : Core T) (ds : List Done) (turn : ℕ) : Type 0 where
    pub past : (t : List Entry) → Fits old t
        → (first : List Event) × Handles (id_of old) t es first left ds (counts_of old) (counts_of now) × Fits now (handled_all (id_of old) t first)
    pub count : length ds ≡ turn
    pub works : is_failed now ≡ false
    pub named : id_of now ≡ id_of old
    pub behind : Stands seen may_leave (store_of old) → (kept : BookView) × StandsBehind seen may_leave (store_of now) kept
    pub kept : (t : List Entry) → Fits old t → Stands seen may_leave (store_of old)
        → (kept : BookView) × IsFirstBook (id_of old) t es kept × StandsBehind seen may_leave (store_of now) kept
    pub moments : (t : List Entry) → Fits old t → Stands seen may_leave (store_of old)
        → LeavesOnly moment left_since (twin_of (store_of old)) (twin_of (store_of now)) (LeavesFirst (id_of old) t es)
    pub same_failures : failures (twin_of (store_of now)) ≡ failures (twin_of (store_of old))

  -- nothing was done yet
  at_first_book : (es : List Event) (old : Core T) (t : List Entry) → Fits old t → IsFirstBook (id_of old) t es (kept_book old)
  at_first_book es old t f = record { first = []; others = es; events = refl; in_turn = tt; book = f.journal.book }

  pub first_moment : ((twin : T) (c : Contents) → left_since twin (moment twin) c → may_leave twin c) → (es : List Event) (old : Core T) (t : List Entry) → Fits old t
      → Stands seen may_leave (store_of old) → LeavesOnly moment left_since (twin_of (store_of old)) (twin_of (store_of old)) (LeavesFirst (id_of old) t es)
  first_moment only_now es old t f stands =
      started moment left_since (twin_of (store_of old)) (LeavesFirst (id_of old) t es)
      (λ c left. (
        kept_book old,
        held_opens seen may_leave (journal_of (store_of old)) (kept_book old) (kept_book old) c
            (kept_is_held seen may_leave (journal_of (store_of old)) (kept_book old) stands) (only_now (twin_of (store_of old)) c left),
        at_first_book es old t f,
      ))

  pub at_first : ((twin : T) (c : Contents) → left_since twin (moment twin) c → may_leave twin c) → (es : List Event) (old : Core T) (ds : List Done) → is_failed old ≡ false → ds ≡ []
      → IsFar es old es old ds 0
  at_first only_now es old ds works none = record {
    past = λ t f. ([], handles_none (id_of old) t es ds (counts_of old) none, f);
    count = ap (λ (xs : List Done). length xs) none;
    works = works;
    named = refl;
    behind = λ stands. (kept_book old, kept_is_held seen may_leave (journal_of (store_of old)) (kept_book old) stands);
    kept = λ t f stands. (kept_book old, at_first_book es old t f, kept_is_held seen may_leave (journal_of (store_of old)) (kept_book old) stands);
    moments = λ t f stands. first_moment only_now es old t f stands;
    same_failures = refl;
  }

  -- the book of a router that has come so far
  now_book : (es : List Event) (old : Core T) (left : List Event) (now : Core T) (ds : List Done) (turn : ℕ) → IsFar es old left now ds turn → (t : List Entry) → Fits old t
      → IsFirstBook (id_of old) t es (kept_book now)
  now_book es old left now ds turn far t f =
      let w = far.past t f in
      subst (λ (b : BookView). IsFirstBook (id_of old) t es b) (sym w.2.journal.book) (first_book (id_of old) t es w.0 left ds (counts_of old) (counts_of now) w.1)

  -- whatever is answered, a crash leaves the book after some first events
  pub next_moment : (es : List Event) (old : Core T) (left : List Event) (now : Core T) (ds : List Done) (turn : ℕ) (new : Core T) → IsFar es old left now ds turn
      → ((kept : BookView) → StandsBehind seen may_leave (store_of now) kept → LeavesOnly moment left_since (twin_of (store_of now)) (twin_of (store_of new)) (EitherOpens kept (kept_book now)))
      → (t : List Entry) → Fits old t → Stands seen may_leave (store_of old)
      → LeavesOnly moment left_since (twin_of (store_of old)) (twin_of (store_of new)) (LeavesFirst (id_of old) t es)
  next_moment es old left now ds turn new far run t f stands =
      let k = far.kept t f stands in
      group_moment (twin_of (store_of old)) (twin_of (store_of now)) (twin_of (store_of new)) (id_of old) t es k.0 (kept_book now) k.1 (now_book es old left now ds turn far t f)
      (far.moments t f stands) (run k.0 k.2)

  -- one event more was handled
  pub further : (es : List Event) (old : Core T) (left : List Event) (now : Core T) (ds : List Done) (turn : ℕ) (e : Event) (rest : List Event) (new : Core T) (more : List Done)
      → IsFar es old left now ds turn → left ≡ e ∷ rest
      → ((t : List Entry) → Fits now t → Fits new (handled (id_of now) t (step_of e)))
      → ((t : List Entry) → Fits now t → declines t e ≡ false)
      → (d : Done) × (more ≡ ds ++ d ∷ []) × ((t : List Entry) → Fits now t → IsTold t e d)
      → counts_of new ≡ with_event e (counts_of now)
      → is_failed new ≡ false
      → ((kept : BookView) → StandsBehind seen may_leave (store_of now) kept → StandsBehind seen may_leave (store_of new) kept ⊎ StandsBehind seen may_leave (store_of new) (kept_book now))
      → id_of new ≡ id_of now
      → ((kept : BookView) → StandsBehind seen may_leave (store_of now) kept → LeavesOnly moment left_since (twin_of (store_of now)) (twin_of (store_of new)) (EitherOpens kept (kept_book now)))
      → failures (twin_of (store_of new)) ≡ failures (twin_of (store_of now))
      → IsFar es old rest new more (turn + 1)
  further es old left now ds turn e rest new more far next fits turns told counted works behind named run same = record {
    past = λ t f.
        let w = far.past t f in
        let fit : Fits new (handled (id_of old) (handled_all (id_of old) t w.0) (step_of e)) =
        subst (λ (id : List ℕ). Fits new (handled id (handled_all (id_of old) t w.0) (step_of e))) far.named (fits (handled_all (id_of old) t w.0) w.2) in (
          w.0 ++ e ∷ [],
          handles_more (id_of old) t es w.0 left rest ds more (counts_of old) (counts_of now) (counts_of new) e told.0 w.1 next (turns (handled_all (id_of old) t w.0) w.2)
              (told.2 (handled_all (id_of old) t w.0) w.2) told.1 counted,
          subst (λ (u : List Entry). Fits new u) (sym (handled_more (id_of old) t w.0 e)) fit,
        );
    count =
        let one : length (ds ++ told.0 ∷ []) ≡ turn + 1 = omega (arith, length-append ds (told.0 ∷ []), far.count)
        in ap (λ (xs : List Done). length xs) told.1 ∙ one;
    works = works;
    named = named ∙ far.named;
    behind = λ stands.
        let k = far.behind stands in
        ⊎_elim (λ still. (k.0, still)) (λ moved. (kept_book now, moved)) (behind k.0 k.1);
    kept = λ t f stands.
        let k = far.kept t f stands in
        ⊎_elim (λ still. (k.0, k.1, still)) (λ moved. (kept_book now, now_book es old left now ds turn far t f, moved)) (behind k.0 k.2);
    moments = λ t f stands. next_moment es old left now ds turn new far run t f stands;
    same_failures = same ∙ far.same_failures;
  }

  -- the router is still the same, and what was told
  pub still_far : (es : List Event) (old : Core T) (left : List Event) (now new : Core T) (ds more : List Done) (turn : ℕ) → new ≡ now → more ≡ ds → IsFar es old left now ds turn → IsFar es old left new more turn
  still_far es old left now new ds more turn same told far =
      subst (λ (core : Core T). IsFar es old left core more turn) (sym same) (subst (λ (xs : List Done). IsFar es old left now xs turn) (sym told) far)

  -- no more are to be handled, or none is left
  pub group_ends : (es : List Event) (old : Core T) (left : List Event) (now : Core T) (ds : List Done) (turn most : ℕ) → IsFar es old left now ds turn → (turn ≡ most) ⊎ (left ≡ [])
      → (t : List Entry) → Fits old t
      → (group : HandlesGroup (id_of old) t es left most ds (counts_of old) (counts_of now)) × Fits now (handled_all (id_of old) t group.first)
  group_ends es old left now ds turn most far why t f =
      let w = far.past t f in
      (record { first = w.0; others = left; handles = w.1; ends = inl (refl, ⊎_elim (λ all. inl (far.count ∙ all)) (λ none. inr none) why) }, w.2)

  -- the next one is declined
  pub group_declines : (es : List Event) (old : Core T) (left : List Event) (now : Core T) (ds : List Done) (turn most : ℕ) (e : Event) (rest : List Event) → IsFar es old left now ds turn → left ≡ e ∷ rest
      → ((t : List Entry) → Fits now t → declines t e ≡ true)
      → (t : List Entry) → Fits old t
      → (group : HandlesGroup (id_of old) t es rest most ds (counts_of old) (counts_of now)) × Fits now (handled_all (id_of old) t group.first)
  group_declines es old left now ds turn most e rest far next declined t f =
      let w = far.past t f in
      (record { first = w.0; others = left; handles = w.1; ends = inr (e, next, declined (handled_all (id_of old) t w.0) w.2) }, w.2)

  -- what was held is written: the trace is the same
  pub group_written : (es : List Event) (old mid new : Core T) (left : List Event) (most : ℕ) (ds : List Done) → counts_of new ≡ counts_of mid → ((t : List Entry) → Fits mid t → Fits new t) → (t : List Entry)
      → (group : HandlesGroup (id_of old) t es left most ds (counts_of old) (counts_of mid)) × Fits mid (handled_all (id_of old) t group.first)
      → (group : HandlesGroup (id_of old) t es left most ds (counts_of old) (counts_of new)) × Fits new (handled_all (id_of old) t group.first)
  group_written es old mid new left most ds same fits t h = (
    record {
      first = h.0.first;
      others = h.0.others;
      handles = record {
        events = h.0.handles.events;
        in_turn = h.0.handles.in_turn;
        told = h.0.handles.told;
        count = h.0.handles.count;
        counted = same ∙ h.0.handles.counted;
      };
      ends = h.0.ends;
    },
    fits (handled_all (id_of old) t h.0.first) h.1,
  )

  -- and a crash leaves the book after some first events
  pub written_moment : (es : List Event) (old mid new : Core T) (left : List Event) (most : ℕ) (ds : List Done) (t : List Entry)
      → (group : HandlesGroup (id_of old) t es left most ds (counts_of old) (counts_of mid)) × Fits mid (handled_all (id_of old) t group.first)
      → (kept : BookView) × IsFirstBook (id_of old) t es kept × StandsBehind seen may_leave (store_of mid) kept
      → LeavesOnly moment left_since (twin_of (store_of old)) (twin_of (store_of mid)) (LeavesFirst (id_of old) t es)
      → ((kept : BookView) → StandsBehind seen may_leave (store_of mid) kept → LeavesOnly moment left_since (twin_of (store_of mid)) (twin_of (store_of new)) (EitherOpens kept (kept_book mid)))
      → LeavesOnly moment left_since (twin_of (store_of old)) (twin_of (store_of new)) (LeavesFirst (id_of old) t es)
  written_moment es old mid new left most ds t h k so_far run =
      group_moment (twin_of (store_of old)) (twin_of (store_of mid)) (twin_of (store_of new)) (id_of old) t es k.0 (kept_book mid) k.1
      (record { first = h.0.first; others = h.0.others; events = h.0.handles.events; in_turn = h.0.handles.in_turn; book = h.1.journal.book }) so_far (run k.0 k.2)
