-- A journal that keeps a book holds nothing that leads elsewhere; and what a crash leaves of one that holds batches opens to the book of its files.
use Rattle.std.proofs.Common.{◌≡◌, ℕ, ◌+◌, List, [], ◌∷◌, ◌++◌, length, refl, sym, ap, ◌∙◌, subst, arith}
use Rattle.std.proofs.lemmas.List.{append-nil}
use Rattle.disk_core.specs.Twin.{Contents}
use Rattle.book_model.specs.declared.act.Act.{Act}
use Rattle.book_model.specs.Book.{BookView}
use Rattle.journal_codec.specs.Batches.{AllApply, book_after}
use Rattle.journal_codec.specs.Format.{blocks}
use Rattle.twin_journal.specs.declared.figures.Figures.{Figures}
use Rattle.twin_journal.specs.declared.held.Held.{Held}
use Rattle.twin_journal.specs.declared.journal.Journal.{Journal}
use Rattle.twin_journal.specs.Figures.{IsAt}
use Rattle.twin_journal.specs.Held.{IsAhead, IsHeld}
use Rattle.twin_journal.specs.Holding.{HoldsOn, OpensTo, TwinHolds}
use Rattle.twin_journal.specs.Journal.{Holds, HoldsBook, Keeps, KeepsBook}
use Rattle.twin_journal.specs.Room.{Suits}

no_blocks : 0 ∷ [] ≡ blocks [] ++ 0 ∷ []
unfolding blocks
no_blocks = refl

-- figures with nothing more
same_figures : (figures : Figures) → figures ≡ record figures { place = figures.place + length (blocks []); last = figures.last + length {A = List Act} [] }
unfolding blocks
same_figures figures =
    ap (λ (n : ℕ). record figures { place = n }) (let none : figures.place ≡ figures.place + 0 = omega arith in none) ∙ ap (λ (n : ℕ). record figures { place = figures.place + 0; last = n }) (let none : figures.last ≡ figures.last + 0 = omega arith in none)

pub none_held : (figures : Figures) (held : Held) → held.bytes.items ≡ 0 ∷ [] → held.ahead ≡ figures → IsHeld figures held []
none_held figures held bytes level = record { bytes = bytes ∙ no_blocks; ahead = level ∙ same_figures figures }

none_apply : (b : BookView) → AllApply b []
unfolding AllApply
none_apply b = tt

pub none_ahead : (figures : Figures) (held : Held) (seen : Contents) (may_leave : Contents → Type 0) (stamp : List ℕ) (start : BookView) (bs : List (List Act)) → IsAt figures seen may_leave stamp start bs
    → held.bytes.items ≡ 0 ∷ [] → held.ahead ≡ figures → IsAhead figures held seen may_leave stamp start bs []
none_ahead figures held seen may_leave stamp start bs at bytes level = record { at = at; are_held = none_held figures held bytes level; apply = none_apply (book_after start bs) }

-- a crash leaves the batches of the files
pub left_holds : (d : Contents) (figures : Figures) (seen : Contents) (may_leave : Contents → Type 0) (stamp : List ℕ) (start : BookView) (bs : List (List Act)) → IsAt figures seen may_leave stamp start bs → may_leave d
    → TwinHolds d figures.base start bs
left_holds d figures seen may_leave stamp start bs at left = record {
  side = figures.side;
  epoch = figures.epoch;
  size = figures.size;
  stamp = stamp;
  on = subst (λ (e : Contents). HoldsOn figures.side e figures.epoch figures.base figures.size stamp start bs) (sym (at.durable d left)) at.fits.on;
}

module _ {T : Type 0} (seen : T → Contents) (may_leave : T → Contents → Type 0) (j : Journal T) where
  pub keeps_holds : (base : ℕ) (start : BookView) (bs : List (List Act)) → Keeps seen may_leave j base start bs → Holds seen may_leave j base start bs []
  keeps_holds base start bs k = record {
    stamp = k.stamp;
    ahead = none_ahead j.figures j.held (seen j.twin) (may_leave j.twin) k.stamp start bs k.at k.none_held k.level;
    base_is = k.base_is;
    suits = subst (λ (xs : List (List Act)). Suits j.needs (book_after start xs)) (sym (append-nil bs)) k.suits;
  }

  pub kept_is_held : (b : BookView) → KeepsBook seen may_leave j b → HoldsBook seen may_leave j b b
  kept_is_held b k = record {
    base = k.base;
    start = k.start;
    batches = k.batches;
    held = [];
    holds = keeps_holds k.base k.start k.batches k.keeps;
    kept_is = k.leaves;
    leaves = k.leaves ∙ ap (book_after k.start) (sym (append-nil k.batches));
  }

  pub held_opens : (kept book : BookView) (c : Contents) → HoldsBook seen may_leave j kept book → may_leave j.twin c → OpensTo c kept
  held_opens kept book c h left = record {
    base = j.figures.base;
    start = h.start;
    batches = h.batches;
    holds = left_holds c j.figures (seen j.twin) (may_leave j.twin) h.holds.stamp h.start h.batches h.holds.ahead.at left;
    leaves = h.kept_is;
  }
