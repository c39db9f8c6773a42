-- The idle side becomes the active one.
use Rattle.std.proofs.Common.{◌≡◌, ◌⊎◌, inl, inr, ℕ, zero, suc, ◌+◌, ◌<◌, Bool, true, false, List, [], ◌∷◌, ◌++◌, length, take, refl, sym, ap, ◌∙◌, subst, arith, append_assoc, length-append}
use Rattle.std.specs.Prelude.{not}
use Rattle.std.proofs.lemmas.List.{append-nil}
use Rattle.disk_core.specs.declared.side.Side.{Side}
use Rattle.disk_core.specs.declared.side.Side.TheVariants.{First, Second}
use Rattle.disk_core.specs.Disk.{overwritten, between, from, Only}
use Rattle.disk_core.specs.Twin.{other, Contents}
use Rattle.disk_core.specs.TwinLaws.{SpoiltOn}
use Rattle.book_model.specs.declared.act.Act.{Act}
use Rattle.book_model.specs.Book.{BookView}
use Rattle.journal_codec.specs.Batches.{HoldsFrom, AllApply, book_after}
use Rattle.journal_codec.specs.Format.{blocks, front_from}
use Rattle.gate_journal.proofs.Fronts.{front_none}
use Rattle.twin_journal.specs.declared.figures.Figures.{Figures}
use Rattle.twin_journal.specs.Figures.{IsIdleAs, Fits, IsAt, IsFilled, IsRenewed}
use Rattle.twin_journal.specs.Format.{magic}
use Rattle.twin_journal.specs.Holding.{HoldsOn, TwinHolds}
use Rattle.twin_journal.specs.Sides.{IsShut, HasEpoch, IsOlder, IsIdle}
use Rattle.twin_journal.proofs.Found.{stamp_epoch, as_idle}
use Rattle.twin_journal.specs.Reading.{IsWritten, IsFill}
use Rattle.twin_journal.proofs.Written.{after_written}
use Rattle.twin_journal.proofs.Idle.{gate_spoilt, gate_written, tail_written, shut_tail, older_gate, older_shut}

pub not_not : (b : Bool) → not b ≡ false → b ≡ true
not_not true e = refl
not_not false e = absurd cc

pub other_other : (s : Side) → other (other s) ≡ s
other_other First = refl
other_other Second = refl

-- the side beside a changed one
pub stays : (side idle : Side) → idle ≡ other side → (c seen : Contents) → c (other idle) ≡ seen (other idle) → c side ≡ seen side
stays side idle is c seen same = let back : other idle ≡ side = ap other is ∙ other_other side in ap c (sym back) ∙ same ∙ ap seen back

-- a head and a gate that isn't open
pub head_holds : (head past : List ℕ) (start : BookView) (file : List ℕ) → file ≡ head ++ 0 ∷ past → HoldsFrom head start file []
unfolding AllApply
head_holds head past start file e = record { gate = 0; rest = past; shut = λ i. absurd (omega (arith, i)); is = e ∙ front_none head (0 ∷ past); valid = tt }

head_alone : (head : List ℕ) → head ≡ front_from head []
unfolding blocks
head_alone head = sym (append-nil head)

-- Two files with these figures.
module _ (figures : Figures) (seen : Contents) (may_leave : Contents → Type 0) (stamp : List ℕ) (start : BookView) (bs : List (List Act)) (at : IsAt figures seen may_leave stamp start bs)
    (idle : Side) (is_idle : idle ≡ other figures.side) where
  -- the active side stays
  pub beside : (c : Contents) → c (other idle) ≡ seen (other idle) → IsIdle figures.epoch (c idle) → HoldsOn figures.side c figures.epoch figures.base figures.size stamp start bs
  beside c same is = record {
    is_stamp = at.fits.on.is_stamp;
    holds = subst (λ (l : List ℕ). HoldsFrom (magic ++ 1 ∷ stamp) start l bs) (sym (stays figures.side idle is_idle c seen same)) at.fits.on.holds;
    idle = subst (λ (s : Side). IsIdle figures.epoch (c s)) is_idle is;
  }

  pub holds_beside : (c : Contents) → c (other idle) ≡ seen (other idle) → IsIdle figures.epoch (c idle) → TwinHolds c figures.base start bs
  holds_beside c same is = record { side = figures.side; epoch = figures.epoch; size = figures.size; stamp = stamp; on = beside c same is }

  -- nothing was written
  pub holds_still : (c : Contents) → c ≡ seen → TwinHolds c figures.base start bs
  holds_still c e =
      holds_beside c (ap (λ (d : Contents). d (other idle)) e)
      (subst (λ (d : Contents). IsIdle figures.epoch (d idle)) (sym e) (subst (λ (s : Side). IsIdle figures.epoch (seen s)) (sym is_idle) at.fits.on.idle))

  -- the idle side, as it was and as it is changed
  pub fits_beside : (open' : Bool) (new : Contents) → new (other idle) ≡ seen (other idle) → IsIdleAs open' figures.epoch (new idle) → Fits (record figures { idle_open = open' }) new stamp start bs
  fits_beside open' new same is = record {
    on = beside new same (as_idle open' figures.epoch (new idle) is);
    idle = subst (λ (s : Side). IsIdleAs open' figures.epoch (new s)) is_idle is;
    is_place = at.fits.is_place;
    last = at.fits.last;
  }

  -- its gate is shut
  module _ (older : figures.idle_open ≡ true) where
    is_older : IsOlder figures.epoch (seen idle)
    is_older = subst (λ (s : Side). IsOlder figures.epoch (seen s)) (sym is_idle) (subst (λ (b : Bool). IsIdleAs b figures.epoch (seen (other figures.side))) older at.fits.idle)

    pub shut_leaves : (c : Contents) → SpoiltOn idle (between 8 9) seen c → TwinHolds c figures.base start bs
    shut_leaves c spoilt = holds_beside c spoilt.there (older_gate figures.epoch (seen idle) (c idle) is_older spoilt.here)

    pub shut_done : (new : Contents) (leaves : Contents → Type 0) → new idle ≡ overwritten 8 (0 ∷ []) (seen idle) → new (other idle) ≡ seen (other idle) → Only new leaves
        → IsAt (record figures { idle_open = false }) new leaves stamp start bs
    shut_done new leaves written same only = record {
      fits = fits_beside false new same (subst IsShut (sym written) (older_shut figures.epoch (seen idle) is_older));
      durable = only;
    }

  -- it is filled
  module _ (shut : figures.idle_open ≡ false) where
    is_shut : IsShut (seen idle)
    is_shut = subst (λ (s : Side). IsShut (seen s)) (sym is_idle) (subst (λ (b : Bool). IsIdleAs b figures.epoch (seen (other figures.side))) shut at.fits.idle)

    pub fill_leaves : (c : Contents) → SpoiltOn idle (from 9) seen c → TwinHolds c figures.base start bs
    fill_leaves c spoilt = holds_beside c spoilt.there (inl (shut_tail (seen idle) (c idle) is_shut spoilt.here))

    is_filled : (new : Contents) (fill : List ℕ) → new idle ≡ overwritten 9 fill (take 9 (seen idle)) → IsFilled fill (new idle)
    is_filled new fill written = record { gate = is_shut.gate; shut = is_shut.shut; is = written ∙ tail_written (seen idle) is_shut.rest is_shut.gate is_shut.is fill }

    pub fill_filled : (new : Contents) (fill : List ℕ) → new idle ≡ overwritten 9 fill (take 9 (seen idle)) → IsFilled fill (new (other figures.side))
    fill_filled new fill written = subst (λ (s : Side). IsFilled fill (new s)) is_idle (is_filled new fill written)

    pub fill_done : (new : Contents) (leaves : Contents → Type 0) (fill : List ℕ) → new idle ≡ overwritten 9 fill (take 9 (seen idle)) → new (other idle) ≡ seen (other idle) → Only new leaves
        → IsAt figures new leaves stamp start bs
    fill_done new leaves fill written same only =
        let f = is_filled new fill written in
        let fits = fits_beside false new same (record { gate = f.gate; rest = fill; shut = f.shut; is = f.is }) in
        record {
          fits = subst (λ (b : Bool). Fits (record figures { idle_open = b }) new stamp start bs) (sym shut) fits;
          durable = only;
        }

  -- its gate is opened
  module _ (next : Figures) (renewed : List ℕ) (book : BookView) (is : IsRenewed figures next renewed book) (filled : IsFilled (renewed ++ 0 ∷ []) (seen (other figures.side))) where
    filled_here : seen idle ≡ magic ++ filled.gate ∷ (renewed ++ 0 ∷ [])
    filled_here = ap seen is_idle ∙ filled.is

    some : 0 < length (renewed ++ 0 ∷ [])
    some = omega (arith, length-append renewed (0 ∷ []))

    -- the epoch of the side that was active
    old_epoch : HasEpoch figures.epoch (seen figures.side)
    old_epoch =
        let h = at.fits.on.holds in
        stamp_epoch (seen figures.side) stamp (blocks bs ++ h.gate ∷ h.rest) figures.epoch figures.base figures.size start at.fits.on.is_stamp
        (h.is ∙ append_assoc (magic ++ 1 ∷ stamp) (blocks bs) (h.gate ∷ h.rest))

    older : (c : Contents) → c (other idle) ≡ seen (other idle) → IsOlder next.epoch (c (other idle))
    older c same =
        let back : other idle ≡ figures.side = ap other is_idle ∙ other_other figures.side in
        record {
          older = figures.epoch;
          has = subst (λ (l : List ℕ). HasEpoch figures.epoch l) (sym (ap c back ∙ stays figures.side idle is_idle c seen same)) old_epoch;
          lower = omega (arith, is.epoch);
        }

    new_holds : (c : Contents) (past : List ℕ) → c idle ≡ magic ++ 1 ∷ (renewed ++ 0 ∷ [] ++ past) → c (other idle) ≡ seen (other idle)
        → HoldsOn idle c next.epoch next.base next.size renewed book []
    new_holds c past e same = record {
      is_stamp = is.is_stamp;
      holds = head_holds (magic ++ 1 ∷ renewed) past book (c idle) (e ∙ ap (λ (l : List ℕ). magic ++ 1 ∷ l) (append_assoc renewed (0 ∷ []) past));
      idle = inr (older c same);
    }

    abbrev Either : Contents → Type 0
    Either c = TwinHolds c figures.base start bs ⊎ TwinHolds c figures.last book []

    by_gate : (byte : ℕ) (c : Contents) (past : List ℕ) → c idle ≡ magic ++ byte ∷ (renewed ++ 0 ∷ [] ++ past) → c (other idle) ≡ seen (other idle) → Either c
    by_gate zero c past e same = inl (holds_beside c same (inl (record { gate = 0; rest = renewed ++ 0 ∷ [] ++ past; shut = λ i. absurd (omega (arith, i)); is = e })))
    by_gate (suc zero) c past e same =
        inr
        (subst (λ (n : ℕ). TwinHolds c n book []) is.base
        (record { side = idle; epoch = next.epoch; size = next.size; stamp = renewed; on = new_holds c past e same }))
    by_gate (suc (suc n)) c past e same = inl (holds_beside c same (inl (record { gate = suc (suc n); rest = renewed ++ 0 ∷ [] ++ past; shut = λ i. absurd (omega (arith, i)); is = e })))

    pub open_leaves : (c : Contents) → SpoiltOn idle (between 8 9) seen c → TwinHolds c figures.base start bs ⊎ TwinHolds c figures.last book []
    open_leaves c spoilt =
        let g = gate_spoilt (seen idle) (renewed ++ 0 ∷ []) filled.gate filled_here (c idle) some spoilt.here in
        by_gate g.byte c g.past g.gated spoilt.there

    pub open_done : (new : Contents) (leaves : Contents → Type 0) → new idle ≡ overwritten 8 (1 ∷ []) (seen idle) → new (other idle) ≡ seen (other idle) → Only new leaves
        → IsAt next new leaves renewed book []
    open_done new leaves written same only =
        let side : idle ≡ next.side = is_idle ∙ sym is.side in
        let on = new_holds new [] (written ∙ gate_written (seen idle) (renewed ++ 0 ∷ []) filled.gate filled_here 1 ∙ ap (λ (l : List ℕ). magic ++ 1 ∷ l) (sym (append-nil (renewed ++ 0 ∷ [])))) same in
        record {
          fits = record {
            on = subst (λ (s : Side). HoldsOn s new next.epoch next.base next.size renewed book []) side on;
            idle = subst (λ (s : Side). IsIdleAs next.idle_open next.epoch (new (other s))) side (subst (λ (b : Bool). IsIdleAs b next.epoch (new (other idle))) (sym is.idle) (older new same));
            is_place = omega (arith, is.is_place, ap length (head_alone (magic ++ 1 ∷ renewed)), length-append magic (1 ∷ renewed));
            last = omega (arith, is.last, is.base);
          };
          durable = only;
        }

-- Whether the idle side's gate is open is of no account for the next figures.
pub renewed_shut : (figures next : Figures) (stamp : List ℕ) (book : BookView) → IsRenewed figures next stamp book → IsRenewed (record figures { idle_open = false }) next stamp book
renewed_shut figures next stamp book is = record {
  side = is.side;
  epoch = is.epoch;
  base = is.base;
  is_stamp = is.is_stamp;
  is_place = is.is_place;
  last = is.last;
  idle = is.idle;
}

-- the next figures, and what is written for them
pub record Ready (figures next : Figures) (bytes : List ℕ) (book : BookView) : Type 0 where
  pub stamp : List ℕ
  pub renewed : IsRenewed figures next stamp book
  pub is : bytes ≡ stamp ++ 0 ∷ []

pub ready : (figures : Figures) (seen : Contents) (may_leave : Contents → Type 0) (stamp : List ℕ) (start book : BookView) (bs : List (List Act)) → IsAt figures seen may_leave stamp start bs → book_after start bs ≡ book
    → (bytes : List ℕ) (side : Side) (epoch size place : ℕ) → (IsWritten book → IsFill bytes epoch figures.last size book) → side ≡ other figures.side → epoch ≡ figures.epoch + 1 → place ≡ 8 + length bytes
    → Ready figures (record { side = side; epoch = epoch; base = figures.last; size = size; place = place; last = figures.last; idle_open = true }) bytes book
ready figures seen may_leave stamp start book bs at leaves bytes side epoch size place filled sides epochs places =
    let on = at.fits.on in
    let fill = filled (subst IsWritten leaves (after_written on.is_stamp.checkpoint start bs on.is_stamp.is_checkpoint on.holds.valid)) in
    record {
      stamp = fill.stamp;
      renewed = record {
        side = sides;
        epoch = epochs;
        base = refl;
        is_stamp = fill.is_stamp;
        is_place = omega (arith, places, ap length fill.is, length-append fill.stamp (0 ∷ []));
        last = refl;
        idle = refl;
      };
      is = fill.is;
    }
