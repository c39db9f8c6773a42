-- Two files that hold batches open to the book that they leave.
use Rattle.std.proofs.Common.{◌≡◌, ◌⊎◌, inl, inr, ⊎_elim, ℕ, ◌+◌, List, [], length, refl, sym, subst, arith}
use Rattle.disk_core.specs.Twin.{Contents}
use Rattle.book_model.specs.declared.act.Act.{Act}
use Rattle.book_model.specs.Book.{BookView, effects}
use Rattle.journal_codec.specs.Batches.{book_after}
use Rattle.twin_journal.specs.declared.figures.Figures.{Figures}
use Rattle.twin_journal.specs.Figures.{IsAt}
use Rattle.twin_journal.specs.Holding.{TwinHolds, OpensTo, HoldsAt, HoldsOn, HoldsUpTo, BeforeOrAfter, last_of}

pub after_none : (b : BookView) → book_after b [] ≡ b
unfolding book_after
after_none b = refl

pub opens : (c : Contents) (base : ℕ) (start book : BookView) (bs : List (List Act)) → TwinHolds c base start bs → book_after start bs ≡ book → OpensTo c book
opens c base start book bs holds leaves = record { base = base; start = start; batches = bs; holds = holds; leaves = sym leaves }

pub opens_either : (c : Contents) (base last : ℕ) (start book : BookView) (bs : List (List Act)) → book_after start bs ≡ book → TwinHolds c base start bs ⊎ TwinHolds c last book [] → OpensTo c book
opens_either c base last start book bs leaves either =
    ⊎_elim (λ before. opens c base start book bs before leaves) (λ renewed. opens c last book book [] renewed (after_none book)) either

-- with the number of them
pub holds_at : (c : Contents) (base count : ℕ) (start book : BookView) (bs : List (List Act)) → TwinHolds c base start bs → book_after start bs ≡ book → count ≡ base + length bs → HoldsAt c book count
holds_at c base count start book bs holds leaves counted =
    (last_of bs, record { base = base; start = start; batches = bs; holds = holds; leaves = sym leaves; counted = counted; last_is = refl })

-- a crash in front of a batch leaves what the figures say
pub left_at : (d : Contents) (figures : Figures) (seen : Contents) (may_leave : Contents → Type 0) (stamp : List ℕ) (start book : BookView) (bs : List (List Act)) → IsAt figures seen may_leave stamp start bs → book_after start bs ≡ book
    → may_leave d → HoldsAt d book figures.last
left_at d figures seen may_leave stamp start book bs at leaves left =
    let holds : TwinHolds d figures.base start bs = record {
      side = figures.side;
      epoch = figures.epoch;
      size = figures.size;
      stamp = stamp;
      on = subst (λ (e : Contents). HoldsOn figures.side e figures.epoch figures.base figures.size stamp start bs) (sym (at.durable d left)) at.fits.on;
    } in
    holds_at d figures.base figures.last start book bs holds leaves at.fits.last

pub holds_either : (c : Contents) (base last : ℕ) (start book : BookView) (bs : List (List Act)) → book_after start bs ≡ book → last ≡ base + length bs → TwinHolds c base start bs ⊎ TwinHolds c last book []
    → HoldsAt c book last
holds_either c base last start book bs leaves counted either =
    ⊎_elim (λ before. holds_at c base last start book bs before leaves counted)
    (λ renewed. holds_at c last last book book [] renewed (after_none book) (let same : last ≡ last + 0 = omega arith in same)) either

-- what is counted opens too
pub counted_opens : (c : Contents) (book : BookView) (count : ℕ) (last : List Act) → HoldsUpTo c book count last → OpensTo c book
counted_opens c book count last h = record { base = h.base; start = h.start; batches = h.batches; holds = h.holds; leaves = h.leaves }

pub counted_both : (c : Contents) (book : BookView) (count : ℕ) (acts : List Act) → BeforeOrAfter book count acts c → OpensTo c book ⊎ OpensTo c (effects book acts)
counted_both c book count acts either =
    ⊎_elim (λ before. inl (counted_opens c book count before.0 before.1)) (λ behind. inr (counted_opens c (effects book acts) (count + 1) acts behind)) either
