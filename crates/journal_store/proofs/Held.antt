-- A store whose files are behind its book.
use Rattle.std.proofs.Common.{◌⊎◌, inl, inr, ⊎_elim, ◌++◌, ℕ, List, sym, subst}
use Rattle.disk_core.specs.Disk.{LeavesOnly}
use Rattle.disk_core.specs.DiskLaws.{widened, started}
use Rattle.disk_core.specs.Twin.{Contents}
use Rattle.book_model.specs.declared.act.Act.{Act}
use Rattle.book_model.specs.Book.{BookView}
use Rattle.journal_codec.specs.Batches.{book_after}
use Rattle.twin_journal.specs.Holding.{HoldsAt, HoldsUpTo, last_of}
use Rattle.twin_journal.specs.Journal.{Holds, batch_count, written_count}
use Rattle.twin_journal.specs.Keeping.{held_opens}
use Rattle.twin_journal.proofs.Kept.{counted_opens}
use Rattle.journal_store.specs.declared.store.Store.{Store}
use Rattle.journal_store.specs.Store.{OpensTo, StandsBehind, book_of, journal_of, twin_of}

-- at every moment while what is held is written
pub written_moments : {T : Type 0} (moment : T → ℕ) (left_since : T → ℕ → Contents → Type 0) (seen : T → Contents) (may_leave : T → Contents → Type 0) (s : Store T) (new : T) (kept : BookView)
    → ((base : ℕ) (start : BookView) (bs held : List (List Act)) → Holds seen may_leave (journal_of s) base start bs held
    → LeavesOnly moment left_since (twin_of s) new
    (λ c. HoldsAt c (book_after start bs) (written_count (journal_of s)) ⊎ HoldsUpTo c (book_after start (bs ++ held)) (batch_count (journal_of s)) (last_of held)))
    → StandsBehind seen may_leave s kept → LeavesOnly moment left_since (twin_of s) new (λ c. OpensTo c kept ⊎ OpensTo c (book_of s))
written_moments moment left_since seen may_leave s new kept said h =
    widened moment left_since (twin_of s) new _ (λ c. OpensTo c kept ⊎ OpensTo c (book_of s)) (said h.base h.start h.batches h.held h.holds)
    (λ c. ⊎_elim
    (λ files. inl (subst (λ (b : BookView). OpensTo c b) (sym h.kept_is) (counted_opens c (book_after h.start h.batches) (written_count (journal_of s)) files.0 files.1)))
    (λ all. inr (subst (λ (b : BookView). OpensTo c b) (sym h.leaves) (counted_opens c (book_after h.start (h.batches ++ h.held)) (batch_count (journal_of s)) (last_of h.held) all))))

-- the files are left alone
pub still_behind : {T : Type 0} (moment : T → ℕ) (left_since : T → ℕ → Contents → Type 0) (seen : T → Contents) (may_leave : T → Contents → Type 0)
    → ((twin : T) (c : Contents) → left_since twin (moment twin) c → may_leave twin c) → (s : Store T) (kept : BookView)
    → StandsBehind seen may_leave s kept → LeavesOnly moment left_since (twin_of s) (twin_of s) (λ c. OpensTo c kept ⊎ OpensTo c (book_of s))
still_behind moment left_since seen may_leave only_now s kept h =
    started moment left_since (twin_of s) (λ c. OpensTo c kept ⊎ OpensTo c (book_of s)) (λ c left. inl (held_opens seen may_leave (journal_of s) kept (book_of s) c h (only_now (twin_of s) c left)))
