-- What a stop leaves of a run, and what the next run is opened on.
use Rattle.std.proofs.Common.{◌≡◌, ◌∙◌, sym, ap, refl, subst, inl, inr, ◌⊎◌, ℕ, ◌+◌, Bool, true, false, List, [], ◌∷◌, ◌++◌, length, length-append, append_assoc, append-nil, arith}
use Rattle.std.specs.Prelude.{nat_lt, if◌then◌else◌, Option, Some, None, Result, Ok, Err, IfOk}
use Rattle.std.proofs.lemmas.Bool.Decides.{nat_tests}
use Rattle.book_model.specs.declared.act.Act.{Act}
use Rattle.book_model.specs.Book.{BookView, empty_book}
use Rattle.disk_core.specs.Twin.{Contents}
use Rattle.journal_codec.specs.Batches.{book_after}
use Rattle.twin_journal.specs.declared.figures.Figures.{Figures}
use Rattle.twin_journal.specs.Holding.{TwinHolds, last_of}
use Rattle.twin_journal.proofs.Unique.{same_list}
use Rattle.journal_store.specs.declared.store.Store.{Store}
use Rattle.journal_store.specs.Store.{OpensTo, Stands, twin_of, count_of, base_of}
use Rattle.journal_store.proofs.Moments.{left_opens as store_opens}
use Rattle.route_table.specs.Places.{routing_of}
use Rattle.route_table.specs.Settings.{Settings}
use Rattle.router_trace.specs.declared.event.Event.{Event}
use Rattle.router_trace.specs.Configuration.{opened}
use Rattle.router_trace.specs.Trace.{Beginning, Entry, did}
use Rattle.reply_rows.specs.Acts.{Journaled, acts_of, book_in, booked, journaled}
use Rattle.core_machine.specs.Meaning.{Kept, KeptAt}
use Rattle.core_machine.specs.Moves.{Move, GoesInTurnBy}
use Rattle.core_machine.specs.Opened.{IsOpened}
use Rattle.core_machine.specs.Turns.{declines}
use Rattle.core_player.specs.declared.entry.Came.{Came}
use Rattle.core_player.specs.declared.entry.Entry.{Entry as AnEntry}
use Rattle.core_player.specs.declared.entry.Entry.TheVariants as shown
use Rattle.core_player.specs.declared.recorder.Cut.{Cut}
use Rattle.core_player.specs.Entries.{came_of, event_entry}
use Rattle.core_player.specs.Playing.{Agrees}
use Rattle.core_player.specs.Recording.{IsLeft, Shown}
use Rattle.router_core.specs.declared.router.Core.{Core}
use Rattle.router_core.specs.Handling.{id_of, kept_book, store_of}
use Rattle.router_play.specs.Entries.{Shows, ShowsLife, ShowsLives, Survives, survivor}
use Rattle.router_play.specs.Lives.{Life, Lives}
use Rattle.router_core.specs.Machine.{HoldsKept, KeepsBook, core_meaning, opening_of}
use Rattle.router_core.specs.Replies.{handled}
use Rattle.router_play.specs.Script.{new_journal, router_on}
use Rattle.router_play.specs.Stopping.{EndsLives, HoldsJournal}

-- what holds of any answer Ok, from what holds of it
pub if_ok_one : {A E : Type 0} (r : Result A E) (P Q : A → Type 0) → ((x : A) → P x → Q x) → IfOk r P → IfOk r Q
if_ok_one (Ok x) P Q f is = f x is
if_ok_one (Err e) P Q f is = tt

pub if_ok_two : {A E : Type 0} (r : Result A E) (O P Q : A → Type 0) → ((x : A) → O x → P x → Q x) → IfOk r O → IfOk r P → IfOk r Q
if_ok_two (Ok x) O P Q f is also = f x is also
if_ok_two (Err e) O P Q f is also = tt

pub if_ok_three : {A E : Type 0} (r : Result A E) (N O P Q : A → Type 0) → ((x : A) → N x → O x → P x → Q x) → IfOk r N → IfOk r O → IfOk r P → IfOk r Q
if_ok_three (Ok x) N O P Q f is also more = f x is also more
if_ok_three (Err e) N O P Q f is also more = tt

abbrev begun_with : Settings → BookView → ℕ → Beginning
begun_with config book batches = record { routing = routing_of config; book = book; batches = batches }

-- a new journal has no batch
pub new_holds : (contents : Contents) → TwinHolds contents 0 empty_book [] → HoldsJournal contents new_journal
unfolding book_after
new_holds contents holds = record { base = 0; start = empty_book; batches = []; holds = holds; book = refl; count = refl }

one_more_run : (n : ℕ) → 1 + n ≡ n + 1
one_more_run n = omega arith

-- what runs show, then what more runs on top of them show
shows_over : (id : List ℕ) (past ys xs : List Life) (es fs : List AnEntry) → ShowsLives id past ys es → ShowsLives id (ys ++ past) xs fs → ShowsLives id past (xs ++ ys) (es ++ fs)
shows_over id past ys [] es fs front back = subst (λ (gs : List AnEntry). ShowsLives id past ys gs) (sym (ap (λ (gs : List AnEntry). es ++ gs) back ∙ append-nil es)) front
shows_over id past ys (x ∷ xs) es fs front back = (
  back.0,
  es ++ back.1,
  back.2,
  subst (λ (zs : List Life). Lives id zs back.0) (sym (append_assoc xs ys past)) back.3,
  shows_over id past ys xs es back.1 front back.4,
  back.5,
  ap (λ (gs : List AnEntry). es ++ gs) back.6 ∙ sym (append_assoc es back.1 back.2),
)

-- one more run on top of those that two files end
ends_more : (id : List ℕ) (past : List Life) (n : ℕ) (contents left : Contents) (es fs : List AnEntry) (h : EndsLives id past n contents es)
    → EndsLives id (h.0 ++ past) 1 left fs → EndsLives id past (n + 1) left (es ++ fs)
ends_more id past n contents left es fs h k = (
  k.0 ++ h.0,
  k.1,
  length-append k.0 h.0 ∙ ap (λ (x : ℕ). x + length h.0) k.2 ∙ ap (λ (x : ℕ). 1 + x) h.2 ∙ one_more_run n,
  subst (λ (xs : List Life). Lives id xs k.1) (sym (append_assoc k.0 h.0 past)) k.3,
  k.4,
  shows_over id past h.0 k.0 es fs h.5 k.5,
)

-- what a run says of any runs before it
pub one_more_ends : (id : List ℕ) (past : List Life) (n : ℕ) (contents left : Contents) (before after : List AnEntry) → EndsLives id past n contents before
    → ((lives : List Life) (t : List Entry) → Lives id lives t → OpensTo contents (book_in t) → (mine : List AnEntry) × (after ≡ before ++ mine) × EndsLives id lives 1 left mine)
    → EndsLives id past (n + 1) left after
one_more_ends id past n contents left before after h more =
    let k = more (h.0 ++ past) h.1 h.3 h.4 in
    subst (λ (es : List AnEntry). EndsLives id past (n + 1) left es) (sym k.1) (ends_more id past n contents left before k.0 h k.2)

-- two files are one journal only
holds_one : (contents : Contents) (j k : Kept) → HoldsKept contents j → HoldsKept contents k → (j.batches ≡ k.batches) × (j.last ≡ k.last)
holds_one contents j k is too =
    let one = same_list contents is.base too.base is.start too.start is.batches too.batches is.holds too.holds in (
      is.counted ∙ ap (λ (n : ℕ). n + length is.batches) one.bases ∙ ap (λ (bs : List (List Act)). too.base + length bs) one.lists ∙ sym too.counted,
      is.last_is ∙ ap last_of one.lists ∙ sym too.last_is,
    )

kept_opens : (contents : Contents) (k : Kept) → HoldsKept contents k → OpensTo contents k.book
kept_opens contents k h = record { base = h.base; start = h.start; batches = h.batches; holds = h.holds; leaves = h.leaves }

not_below : (n : ℕ) → nat_lt n n ≡ false
not_below n = grind (arith, nat_tests)

just_below : (n : ℕ) → nat_lt n (n + 1) ≡ true
just_below n = grind (arith, nat_tests)

module _ {T : Type 0} (seen : T → Contents) (may_leave : T → Contents → Type 0) (failures : T → ℕ) where
  -- the two files of a store that stands hold its batches
  held : (s : Store T) (k : Stands seen may_leave s) → TwinHolds (seen (twin_of s)) (base_of s) k.start k.batches
  held s k = record { side = s.journal.figures.side; epoch = s.journal.figures.epoch; size = s.journal.figures.size; stamp = k.keeps.stamp; on = k.keeps.at.fits.on }

  -- what a stop leaves of a router whose journal keeps its book
  pub left_opens : (core : Core T) (b : BookView) (contents : Contents) → KeepsBook seen may_leave core b → may_leave (twin_of (store_of core)) contents → OpensTo contents b
  left_opens core b contents keeps left = subst (λ (k : BookView). OpensTo contents k) keeps.1 (store_opens seen may_leave (store_of core) contents keeps.0 left)

  pub left_holds : (core : Core T) (t : List Entry) (contents : Contents) → Agrees (core_meaning seen may_leave failures) core t → may_leave (twin_of (store_of core)) contents → HoldsJournal contents (journaled t)
  left_holds core t contents agrees left =
      let k : Stands seen may_leave (store_of core) = agrees.1.0 in record {
        base = base_of (store_of core);
        start = k.start;
        batches = k.batches;
        holds = subst (λ (c : Contents). TwinHolds c (base_of (store_of core)) k.start k.batches) (sym (k.keeps.at.durable contents left)) (held (store_of core) k);
        book = sym agrees.0.journal.book ∙ k.leaves;
        count = sym agrees.0.journal.batches ∙ ap (λ (f : Figures). f.last) k.keeps.level ∙ k.keeps.at.fits.last;
      }

  -- a router that is opened on two files
  pub opened_on : (contents : Contents) (config : Settings) (core : Core T) (j : Journaled) → HoldsJournal contents j → Stands seen may_leave (store_of core) → seen (twin_of (store_of core)) ≡ contents
      → opening_of config core ≡ router_on config j
  opened_on contents config core j h k same =
      let base = base_of (store_of core) in
      let one = same_list contents base h.base k.start h.start k.batches h.batches (subst (λ (c : Contents). TwinHolds c base k.start k.batches) same (held (store_of core) k)) h.holds in
      let book : kept_book core ≡ j.book = k.leaves ∙ ap (λ (b : BookView). book_after b k.batches) one.starts ∙ ap (book_after h.start) one.lists ∙ sym h.book in
      let count : count_of (store_of core) ≡ j.batches
      = ap (λ (f : Figures). f.last) k.keeps.level ∙ k.keeps.at.fits.last ∙ ap (λ (n : ℕ). n + length k.batches) one.bases ∙ ap (λ (bs : List (List Act)). h.base + length bs) one.lists ∙ sym h.count in
      ap (λ (b : BookView). begun_with config b (count_of (store_of core))) book ∙ ap (λ (n : ℕ). begun_with config j.book n) count

  -- one more run, as its router was opened and as it is now
  module _ (id : List ℕ) (g : Beginning) (past : List Life) (t : List Entry) (lived : Lives id past t) (book : g.book ≡ book_in t) where
    -- all that it did
    whole : (moves : List Move) (u : List Entry) (part : List AnEntry) (left : Contents) → GoesInTurnBy (handled id) moves (opened g t) u → Shows id moves (opened g t) part
        → OpensTo left (book_in u) → EndsLives id past 1 left (part ++ [] ++ shown.Stop ∷ [])
    whole moves u part left goes shows opens =
        let x : Life = record { opening = g; moves = moves; cut = [] } in
        let es : List AnEntry = part ++ [] ++ shown.Stop ∷ [] in
        let life : ShowsLife id x t es = record { end = u; moved = part; goes = goes; shows = shows; entries_are = refl } in
        (x ∷ [], u, refl, (t, u, lived, book, goes, refl), opens, (t, [], es, lived, refl, life, refl))

    -- and the acts of an event that was cut off
    cut_off : (moves : List Move) (u : List Entry) (e : Event) (part : List AnEntry) (left : Contents) → GoesInTurnBy (handled id) moves (opened g t) u → Shows id moves (opened g t) part
        → declines u e ≡ false → OpensTo left (book_in (did e ∷ booked u e)) → EndsLives id past 1 left (part ++ (event_entry e (acts_of u e) ∷ []) ++ shown.Stop ∷ [])
    cut_off moves u e part left goes shows taken opens =
        let x : Life = record { opening = g; moves = moves; cut = e ∷ [] } in
        let es : List AnEntry = part ++ (event_entry e (acts_of u e) ∷ []) ++ shown.Stop ∷ [] in
        let life : ShowsLife id x t es = record { end = u; moved = part; goes = goes; shows = shows; entries_are = refl } in
        (x ∷ [], did e ∷ booked u e, refl, (t, u, lived, book, goes, (taken, refl)), opens, (t, [], es, lived, refl, life, refl))

    pub one_more : (first core : Core T) (left : Contents) (cut : Option Cut) (part last : List AnEntry) → id_of first ≡ id → IsOpened (core_meaning seen may_leave failures) g first
        → Shown (core_meaning seen may_leave failures) first core cut part → may_leave (twin_of (store_of core)) left → Survives cut left last
        → EndsLives id past 1 left (part ++ last ++ shown.Stop ∷ [])
    one_more first core left cut part last named opening shows_it may survives =
        let h = shows_it.on g opening t in
        let goes : GoesInTurnBy (handled id) h.moves (opened g t) h.at = subst (λ (i : List ℕ). GoesInTurnBy (handled i) h.moves (opened g t) h.at) (shows_it.named ∙ named) h.is.goes in
        let shows : Shows id h.moves (opened g t) part = subst (λ (i : List ℕ). Shows i h.moves (opened g t) part) (shows_it.named ∙ named) h.is.shows in
        by h.moves h.at goes shows cut h.left survives
      where
        none_left : (moves : List Move) (u : List Entry) → GoesInTurnBy (handled id) moves (opened g t) u → Shows id moves (opened g t) part → last ≡ [] → OpensTo left (book_in u)
            → EndsLives id past 1 left (part ++ last ++ shown.Stop ∷ [])
        none_left moves u goes shows none opens =
            subst (λ (es : List AnEntry). EndsLives id past 1 left (part ++ es ++ shown.Stop ∷ [])) (sym none) (whole moves u part left goes shows opens)

        by_kept : (moves : List Move) (u : List Entry) → GoesInTurnBy (handled id) moves (opened g t) u → Shows id moves (opened g t) part → (c : Cut) (e : Event) (k : Kept) → c.came ≡ came_of e
            → declines u e ≡ false → HoldsKept left k → KeptAt (core_meaning seen may_leave failures) c.batches u e k → last ≡ survivor c k → EndsLives id past 1 left (part ++ last ++ shown.Stop ∷ [])
        by_kept moves u goes shows c e k came taken holds (inl before) is =
            none_left moves u goes shows
            (is ∙ ap (λ (b : Bool). if b then shown.Event c.came k.last ∷ [] else []) (ap (nat_lt c.batches) before.1 ∙ not_below c.batches))
            (subst (λ (b : BookView). OpensTo left b) before.0 (kept_opens left k holds))
        by_kept moves u goes shows c e k came taken holds (inr after) is =
            let entry : last ≡ event_entry e (acts_of u e) ∷ [] =
            is ∙ ap (λ (b : Bool). if b then shown.Event c.came k.last ∷ [] else []) (ap (nat_lt c.batches) after.1 ∙ just_below c.batches)
            ∙ ap (λ (x : Came). shown.Event x k.last ∷ []) came ∙ ap (λ (xs : List Act). shown.Event (came_of e) xs ∷ []) after.2 in
            subst (λ (es : List AnEntry). EndsLives id past 1 left (part ++ es ++ shown.Stop ∷ [])) (sym entry)
            (cut_off moves u e part left goes shows taken (subst (λ (b : BookView). OpensTo left b) after.0 (kept_opens left k holds)))

        by : (moves : List Move) (u : List Entry) → GoesInTurnBy (handled id) moves (opened g t) u → Shows id moves (opened g t) part → (c : Option Cut)
            → IsLeft (core_meaning seen may_leave failures) core u c → Survives c left last → EndsLives id past 1 left (part ++ last ++ shown.Stop ∷ [])
        by moves u goes shows None keeps none = none_left moves u goes shows none (left_opens core (book_in u) left keeps may)
        by moves u goes shows (Some c) cut_is survives =
            let b = cut_is.3 left may in
            let one = holds_one left b.0 survives.0 b.1 survives.1 in
            by_kept moves u goes shows c cut_is.0 b.0 cut_is.1 cut_is.2 b.1 b.2
            (survives.2 ∙ ap (λ (n : ℕ). if nat_lt c.batches n then shown.Event c.came survives.0.last ∷ [] else []) (sym one.0)
            ∙ ap (λ (xs : List Act). if nat_lt c.batches b.0.batches then shown.Event c.came xs ∷ [] else []) (sym one.1))
