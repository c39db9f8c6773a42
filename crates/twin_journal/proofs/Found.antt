-- What is found in the active side.
use Rattle.std.proofs.Common.{◌≡◌, inl, inr, ⊎_elim, ℕ, ◌+◌, Bool, true, false, List, ◌∷◌, ◌++◌, length, sym, ap, ◌∙◌, subst}
use Rattle.disk_core.specs.declared.side.Side.{Side}
use Rattle.disk_core.specs.Twin.{other, Contents}
use Rattle.book_model.specs.Book.{BookView}
use Rattle.journal_codec.specs.Batches.{HoldsFrom}
use Rattle.journal_codec.specs.Format.{in_4, in_8}
use Rattle.gate_journal.specs.declared.fault.OpenFault.{OpenFault}
use Rattle.gate_journal.specs.declared.fault.OpenFault.TheVariants as opening
use Rattle.gate_journal.specs.declared.listing.Entry.{Entry}
use Rattle.gate_journal.specs.Listed.{IsListedFrom}
use Rattle.gate_journal.specs.Opening.{IsFoundFrom, IsDamagedFrom}
use Rattle.gate_journal.specs.Scanning.{BeginsWith, StopsFrom}
use Rattle.twin_journal.specs.declared.listing.Checkpoint.{Checkpoint}
use Rattle.twin_journal.specs.declared.whole.ActiveSide.{ActiveSide}
use Rattle.twin_journal.specs.Checkpoints.{IsStamp}
use Rattle.twin_journal.specs.Figures.{IsIdleAs, IsFound}
use Rattle.twin_journal.specs.Format.{magic}
use Rattle.twin_journal.specs.Judging.{Explains, IsHeadFault}
use Rattle.twin_journal.specs.Listed.{IsListed}
use Rattle.twin_journal.specs.Reading.{HasHead, IsRead}
use Rattle.twin_journal.specs.Sides.{IsGate, IsActive, HasEpoch, IsIdle, IsOlder}
use Rattle.twin_journal.proofs.Active.{shut_or_open, one_epoch}
use Rattle.twin_journal.proofs.Spelled.{small_fits}
use Rattle.twin_journal.proofs.Stamped.{stamp_parts}

-- the epoch of a head
pub stamp_epoch : (file stamp behind : List ℕ) (epoch base size : ℕ) (book : BookView) → IsStamp stamp epoch base size book → file ≡ magic ++ 1 ∷ (stamp ++ behind) → HasEpoch epoch file
stamp_epoch file stamp behind epoch base size book is e = record {
  rest = in_8 base ++ (in_4 (length is.checkpoint) ++ (is.checkpoint ++ behind));
  is = e ∙ ap (λ (l : List ℕ). magic ++ 1 ∷ l) (ap (λ (l : List ℕ). l ++ behind) is.is ∙ stamp_parts epoch base is.checkpoint behind);
  fits = small_fits epoch is.epoch_fits;
}

-- the other side of an active one
pub idle_as : (contents : Contents) (side : Side) (epoch : ℕ) → IsActive contents side → HasEpoch epoch (contents side) → (open' : Bool) → IsGate open' (contents (other side)) → IsIdleAs open' epoch (contents (other side))
idle_as contents side epoch active has false gate = gate
idle_as contents side epoch active has true gate =
    ⊎_elim (λ shut. absurd (shut_or_open (contents (other side)) shut gate))
    (λ newer. subst (λ (e : ℕ). IsOlder e (contents (other side))) (one_epoch (contents side) newer.epoch epoch newer.has has) newer.older)
    active.alone_or_newer

pub as_idle : (open' : Bool) (epoch : ℕ) (file : List ℕ) → IsIdleAs open' epoch file → IsIdle epoch file
as_idle true epoch file older = inr older
as_idle false epoch file shut = inl shut

-- The active side was read, and has a head.
module _ (active : ActiveSide) (contents : Contents) (read : IsRead active contents) (bytes : List ℕ) (same : bytes ≡ active.bytes.items)
    (epoch base size : ℕ) (book : BookView) (behind : List ℕ) (h : HasHead bytes epoch base size book behind) where
  here : bytes ≡ contents active.side
  here = same ∙ read.bytes

  has_epoch : HasEpoch epoch (contents active.side)
  has_epoch = stamp_epoch (contents active.side) h.stamp behind epoch base size book h.is_stamp (sym here ∙ h.begins.is)

  idle : IsIdleAs active.idle_open epoch (contents (other active.side))
  idle = idle_as contents active.side epoch read.is_active has_epoch active.idle_open read.idle

  -- what a walk over its batches found
  pub found : (after : BookView) (place count last : ℕ) → ((head : List ℕ) → BeginsWith head bytes behind → IsFoundFrom head book bytes after place count) → last ≡ base + count
      → IsFound (record { side = active.side; epoch = epoch; base = base; size = size; place = place; last = last; idle_open = active.idle_open }) contents after
  found after place count last walked counted =
      let f = walked (magic ++ 1 ∷ h.stamp) h.begins in
      record {
        stamp = h.stamp;
        start = book;
        batches = f.batches;
        fits = record {
          on = record {
            is_stamp = h.is_stamp;
            holds = subst (λ (l : List ℕ). HoldsFrom (magic ++ 1 ∷ h.stamp) book l f.batches) here f.holds;
            idle = as_idle active.idle_open epoch (contents (other active.side)) idle;
          };
          idle = idle;
          is_place = f.is_place;
          last = counted ∙ ap (λ (n : ℕ). base + n) f.count_is;
        };
        book_is = f.book_is;
      }

  -- why it found none
  pub explained : (fault : OpenFault) → ((head : List ℕ) → BeginsWith head bytes behind → StopsFrom head book bytes fault) → Explains contents fault
  explained fault stops = by_fault fault (stops (magic ++ 1 ∷ h.stamp) h.begins)
    where
      by_fault : (f : OpenFault) → StopsFrom (magic ++ 1 ∷ h.stamp) book bytes f → Explains contents f
      by_fault opening.Memory s = tt
      by_fault opening.Disk s = tt
      by_fault opening.NotAJournal s = absurd s
      by_fault (opening.Damaged place) s = inr (record {
        side = active.side;
        active = read.is_active;
        epoch = epoch;
        base = base;
        size = size;
        stamp = h.stamp;
        start = book;
        is_stamp = h.is_stamp;
        damaged = subst (λ (l : List ℕ). IsDamagedFrom (magic ++ 1 ∷ h.stamp) book l place) here s;
      })

  -- what a list of its acts has
  pub listed : (checkpoint : Checkpoint) (entries : List Entry) (place : ℕ) (after : BookView) → checkpoint.epoch ≡ epoch → checkpoint.base ≡ base → checkpoint.rows ≡ length book.rows → checkpoint.termini ≡ length book.termini
      → ((head : List ℕ) → BeginsWith head bytes behind → IsListedFrom head book bytes entries place after) → IsListed contents checkpoint entries place after
  listed checkpoint entries place after epochs bases rows termini walked = record {
    side = active.side;
    size = size;
    stamp = h.stamp;
    start = book;
    is_stamp = subst (λ (e : ℕ). IsStamp h.stamp e checkpoint.base size book) (sym epochs) (subst (λ (b : ℕ). IsStamp h.stamp epoch b size book) (sym bases) h.is_stamp);
    rows = rows;
    termini = termini;
    listed = subst (λ (l : List ℕ). IsListedFrom (magic ++ 1 ∷ h.stamp) book l entries place after) here (walked (magic ++ 1 ∷ h.stamp) h.begins);
    idle = subst (λ (e : ℕ). IsIdle e (contents (other active.side))) (sym epochs) (as_idle active.idle_open epoch (contents (other active.side)) idle);
  }

-- A head that isn't read.
pub headless : (active : ActiveSide) (contents : Contents) → IsRead active contents → (bytes : List ℕ) → bytes ≡ active.bytes.items → (fault : OpenFault)
    → ((inside : List ℕ) → bytes ≡ magic ++ 1 ∷ inside → IsHeadFault inside fault) → Explains contents fault
headless active contents read bytes same opening.Memory why = tt
headless active contents read bytes same opening.Disk why = tt
headless active contents read bytes same opening.NotAJournal why = absurd (why read.is_active.opened.rest (same ∙ read.bytes ∙ read.is_active.opened.is))
headless active contents read bytes same (opening.Damaged place) why =
    let at = why read.is_active.opened.rest (same ∙ read.bytes ∙ read.is_active.opened.is) in
    inl (at.0, inr (record { side = active.side; active = read.is_active; inside = read.is_active.opened.rest; is = read.is_active.opened.is; none = at.1 }))
