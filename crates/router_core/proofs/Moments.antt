-- What a crash leaves while the acts of an event are written.
use Rattle.std.proofs.Common.{◌≡◌, refl, sym, subst, ℕ, List, ◌⊎◌, inl}
use Rattle.disk_core.specs.Disk.{LeavesOnly}
use Rattle.disk_core.specs.DiskLaws.{started, widened}
use Rattle.disk_core.specs.Twin.{Contents}
use Rattle.book_model.specs.declared.act.Act.{Act}
use Rattle.book_model.specs.Book.{BookView, effects}
use Rattle.twin_journal.specs.Holding.{BeforeOrAfter}
use Rattle.twin_journal.specs.Keeping.{held_opens}
use Rattle.journal_store.specs.declared.store.Store.{Store}
use Rattle.journal_store.specs.Store.{OpensTo, Stands, StandsBehind, book_of, count_of, journal_of, twin_of}
use Rattle.journal_store.proofs.Moments.{still_held, unmoved}
use Rattle.router_trace.specs.declared.event.Event.{Event}
use Rattle.router_trace.specs.Trace.{Entry}
use Rattle.reply_rows.specs.Acts.{acts_of, book_in}
use Rattle.router_core.specs.declared.router.Core.{Core}
use Rattle.router_core.specs.Handling.{Fits, BeforeOrAfterEvent, store_of, kept_book}
use Rattle.router_core.proofs.Books.{before_or_after_event}

-- the book before these acts, or the book after them
abbrev pub EitherBook : {T : Type 0} → Core T → List Act → Contents → Type 0
EitherBook core acts contents = OpensTo contents (kept_book core) ⊎ OpensTo contents (effects (kept_book core) acts)

-- one of two books
abbrev pub EitherOpens : BookView → BookView → Contents → Type 0
EitherOpens a b contents = OpensTo contents a ⊎ OpensTo contents b

module _ {T : Type 0} (seen : T → Contents) (may_leave : T → Contents → Type 0) (moment : T → ℕ) (left_since : T → ℕ → Contents → Type 0) where
  -- these are the event's
  pub known_moment : (core : Core T) (twin : T) (t : List Entry) (e : Event) (acts : List Act) → Fits core t → acts ≡ acts_of t e
      → LeavesOnly moment left_since (twin_of (store_of core)) twin (EitherBook core acts) → LeavesOnly moment left_since (twin_of (store_of core)) twin (BeforeOrAfterEvent t e)
  known_moment core twin t e acts f are run =
      widened moment left_since _ _ _ _ run (λ contents. before_or_after_event core t e acts contents f are)

  -- the files are left alone
  pub still_moment : ((twin : T) (c : Contents) → left_since twin (moment twin) c → may_leave twin c) → (core : Core T) (twin : T) (t : List Entry) (e : Event) → Fits core t
      → Stands seen may_leave (store_of core) → twin ≡ twin_of (store_of core) → LeavesOnly moment left_since (twin_of (store_of core)) twin (BeforeOrAfterEvent t e)
  still_moment only_now core twin t e f stands same =
      widened moment left_since _ _ _ _ (unmoved seen may_leave moment left_since only_now (store_of core) twin same stands)
      (λ contents opens. inl (subst (λ (b : BookView). OpensTo contents b) f.journal.book opens))

  -- how many batches there are then, and which is the last one
  pub known_journal : (core : Core T) (twin : T) (t : List Entry) (e : Event) (acts : List Act) → Fits core t → acts ≡ acts_of t e
      → LeavesOnly moment left_since (twin_of (store_of core)) twin (BeforeOrAfter (kept_book core) (count_of (store_of core)) acts)
      → LeavesOnly moment left_since (twin_of (store_of core)) twin (BeforeOrAfter (book_in t) (count_of (store_of core)) (acts_of t e))
  known_journal core twin t e acts f are run =
      subst (λ (b : BookView). LeavesOnly moment left_since (twin_of (store_of core)) twin (BeforeOrAfter b (count_of (store_of core)) (acts_of t e))) f.journal.book
      (subst (λ (xs : List Act). LeavesOnly moment left_since (twin_of (store_of core)) twin (BeforeOrAfter (kept_book core) (count_of (store_of core)) xs)) are run)

  pub still_journal : ((twin : T) (c : Contents) → left_since twin (moment twin) c → may_leave twin c) → (core : Core T) (twin : T) (t : List Entry) (e : Event) → Fits core t
      → Stands seen may_leave (store_of core) → twin ≡ twin_of (store_of core)
      → LeavesOnly moment left_since (twin_of (store_of core)) twin (BeforeOrAfter (book_in t) (count_of (store_of core)) (acts_of t e))
  still_journal only_now core twin t e f stands same =
      known_journal core twin t e (acts_of t e) f refl
      (subst (λ (d : T). LeavesOnly moment left_since (twin_of (store_of core)) d (BeforeOrAfter (kept_book core) (count_of (store_of core)) (acts_of t e))) (sym same)
      (still_held seen may_leave moment left_since only_now (store_of core) (acts_of t e) stands))

  -- what is held, where the files are left alone
  pub still_behind : ((twin : T) (c : Contents) → left_since twin (moment twin) c → may_leave twin c) → (s : Store T) (twin : T) (kept : BookView)
      → StandsBehind seen may_leave s kept → twin ≡ twin_of s → LeavesOnly moment left_since (twin_of s) twin (EitherOpens kept (book_of s))
  still_behind only_now s twin kept holds same =
      subst (λ (d : T). LeavesOnly moment left_since (twin_of s) d (EitherOpens kept (book_of s))) (sym same)
      (started moment left_since (twin_of s) (EitherOpens kept (book_of s)) (λ c left. inl (held_opens seen may_leave (journal_of s) kept (book_of s) c holds (only_now (twin_of s) c left))))

  -- what is held, where the store is left alone before, and after
  pub behind_between : (s u v w : Store T) → u ≡ s → w ≡ v
      → ((kept : BookView) → StandsBehind seen may_leave u kept → StandsBehind seen may_leave v kept ⊎ StandsBehind seen may_leave v (book_of u))
      → (kept : BookView) → StandsBehind seen may_leave s kept → StandsBehind seen may_leave w kept ⊎ StandsBehind seen may_leave w (book_of s)
  behind_between s u v w before after is =
      subst (λ (x : Store T). (kept : BookView) → StandsBehind seen may_leave s kept → StandsBehind seen may_leave x kept ⊎ StandsBehind seen may_leave x (book_of s)) (sym after)
      (subst (λ (x : Store T). (kept : BookView) → StandsBehind seen may_leave x kept → StandsBehind seen may_leave v kept ⊎ StandsBehind seen may_leave v (book_of x)) before is)

  pub moment_between : (s u v w : Store T) → u ≡ s → w ≡ v
      → ((kept : BookView) → StandsBehind seen may_leave u kept → LeavesOnly moment left_since (twin_of u) (twin_of v) (EitherOpens kept (book_of u)))
      → (kept : BookView) → StandsBehind seen may_leave s kept → LeavesOnly moment left_since (twin_of s) (twin_of w) (EitherOpens kept (book_of s))
  moment_between s u v w before after is =
      subst (λ (x : Store T). (kept : BookView) → StandsBehind seen may_leave s kept → LeavesOnly moment left_since (twin_of s) (twin_of x) (EitherOpens kept (book_of s))) (sym after)
      (subst (λ (x : Store T). (kept : BookView) → StandsBehind seen may_leave x kept → LeavesOnly moment left_since (twin_of x) (twin_of v) (EitherOpens kept (book_of x))) before is)
