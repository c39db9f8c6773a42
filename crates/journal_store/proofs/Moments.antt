-- A store whose two files are left alone.
use Rattle.std.proofs.Common.{◌≡◌, ◌∙◌, ap, inl, ℕ, List, sym, subst}
use Rattle.book_model.specs.declared.act.Act.{Act}
use Rattle.disk_core.specs.Disk.{LeavesOnly}
use Rattle.disk_core.specs.DiskLaws.{started}
use Rattle.disk_core.specs.Twin.{Contents}
use Rattle.journal_store.specs.declared.store.Store.{Store}
use Rattle.twin_journal.specs.declared.figures.Figures.{Figures}
use Rattle.twin_journal.specs.Holding.{BeforeOrAfter, HoldsAt}
use Rattle.twin_journal.proofs.Kept.{holds_at}
use Rattle.journal_store.specs.Store.{OpensTo, Stands, twin_of, book_of, count_of}
use Rattle.journal_store.proofs.Opened.{kept_opens}

-- whatever a crash leaves of a store that stands opens to its book
pub left_opens : {T : Type 0} (seen : T → Contents) (may_leave : T → Contents → Type 0) (s : Store T) (c : Contents) → Stands seen may_leave s → may_leave (twin_of s) c → OpensTo c (book_of s)
left_opens seen may_leave s c stands left =
    subst (λ (d : Contents). OpensTo d (book_of s)) (sym (stands.keeps.at.durable c left)) (kept_opens seen may_leave s.journal s.kept.book stands)

-- a crash leaves the book that it would have left before
pub unmoved : {T : Type 0} (seen : T → Contents) (may_leave : T → Contents → Type 0) (moment : T → ℕ) (left_since : T → ℕ → Contents → Type 0)
    → ((twin : T) (c : Contents) → left_since twin (moment twin) c → may_leave twin c) → (old : Store T) (twin : T) → twin ≡ twin_of old → Stands seen may_leave old
    → LeavesOnly moment left_since (twin_of old) twin (λ c. OpensTo c (book_of old))
unmoved seen may_leave moment left_since only_now old twin same stands =
    subst (λ d. LeavesOnly moment left_since (twin_of old) d (λ c. OpensTo c (book_of old))) (sym same)
    (started moment left_since (twin_of old) (λ c. OpensTo c (book_of old)) (λ c left. left_opens seen may_leave old c stands (only_now (twin_of old) c left)))

-- it leaves so many batches, as it would have left before
pub left_holds : {T : Type 0} (seen : T → Contents) (may_leave : T → Contents → Type 0) (s : Store T) (c : Contents) → Stands seen may_leave s → may_leave (twin_of s) c → HoldsAt c (book_of s) (count_of s)
left_holds seen may_leave s c stands left =
    let at = stands.keeps.at in
    subst (λ (d : Contents). HoldsAt d (book_of s) (count_of s)) (sym (at.durable c left))
    (holds_at (seen (twin_of s)) s.journal.figures.base (count_of s) stands.start (book_of s) stands.batches
    (record { side = s.journal.figures.side; epoch = s.journal.figures.epoch; size = s.journal.figures.size; stamp = stands.keeps.stamp; on = at.fits.on }) (sym stands.leaves)
    (ap (λ (f : Figures). f.last) stands.keeps.level ∙ at.fits.last))

pub still_held : {T : Type 0} (seen : T → Contents) (may_leave : T → Contents → Type 0) (moment : T → ℕ) (left_since : T → ℕ → Contents → Type 0)
    → ((twin : T) (c : Contents) → left_since twin (moment twin) c → may_leave twin c) → (s : Store T) (acts : List Act) → Stands seen may_leave s
    → LeavesOnly moment left_since (twin_of s) (twin_of s) (BeforeOrAfter (book_of s) (count_of s) acts)
still_held seen may_leave moment left_since only_now s acts stands =
    started moment left_since (twin_of s) (BeforeOrAfter (book_of s) (count_of s) acts) (λ c left. inl (left_holds seen may_leave s c stands (only_now (twin_of s) c left)))
