-- What a crash leaves of two files, one of which is being changed.
use Rattle.std.proofs.Common.{◌≡◌, ℕ, Bool, false, List, Result, Ok, Err, sym, ◌∙◌, ap, subst, arith}
use Rattle.std.specs.Prelude.{slice_get, ◌||◌, OnOk}
use Rattle.std.proofs.lemmas.Bool.Decides.{nat_tests}
use Rattle.disk_core.specs.declared.side.Side.{Side}
use Rattle.disk_core.specs.Disk.{between, from, Agrees, Spares, Opens, NoMore, Only, LeavesOnly}
use Rattle.disk_core.specs.DiskLaws.{started}
use Rattle.disk_core.specs.Twin.{other, Contents, OnSide}
use Rattle.disk_core.specs.TwinLaws.{SpoiltOn, spoilt_on, only_both, less_side, on_each}

-- Two files that a crash leaves whole.
module _ {D : Type 0} (moment : D → ℕ) (left_since : D → ℕ → Contents → Type 0) (may_leave : D → Contents → Type 0) (seen : D → Contents) (side : Side) (old : D)
    (only_now : (c : Contents) → left_since old (moment old) c → may_leave old c) (only : Only (seen old) (may_leave old)) where
  -- none of their bytes is changed
  pub whole : (places : ℕ → Bool) → (c : Contents) → c ≡ seen old → SpoiltOn side places (seen old) c
  whole places c is = record {
    here = λ place l shut. ap (λ (d : Contents). slice_get (d side) place) is;
    there = ap (λ (d : Contents). d (other side)) is;
  }

  pub begun : (places : ℕ → Bool) → LeavesOnly moment left_since old old (SpoiltOn side places (seen old))
  begun places = started moment left_since old (SpoiltOn side places (seen old)) (λ c left. whole places c (only c (only_now c left)))

  -- a write or a cut
  pub opened : (places : ℕ → Bool) (new : D) → Opens places (OnSide side (may_leave old)) (OnSide side (may_leave new)) → NoMore (OnSide (other side) (may_leave old)) (OnSide (other side) (may_leave new))
      → (c : Contents) → may_leave new c → SpoiltOn side places (seen old) c
  opened places new opens less = spoilt_on side places (seen old) (may_leave old) (may_leave new) only opens less

  -- one more, of places that are open already
  pub opened_more : (places more : ℕ → Bool) (mid new : D) → ((place : ℕ) → places place ≡ false → (places place || more place) ≡ false)
      → ((c : Contents) → may_leave mid c → SpoiltOn side places (seen old) c)
      → Opens more (OnSide side (may_leave mid)) (OnSide side (may_leave new)) → NoMore (OnSide (other side) (may_leave mid)) (OnSide (other side) (may_leave new))
      → (c : Contents) → may_leave new c → SpoiltOn side places (seen old) c
  opened_more places more mid new within leaves opens less c left = record {
    here = λ place l shut. opens.spares (seen old side) places spares (c side) (on_each side (may_leave new) c left) place l (within place shut);
    there = let there = less (c (other side)) (on_each (other side) (may_leave new) c left) in sym there.is ∙ (leaves there.both there.outcome).there;
  }
    where
      spares : Spares places (seen old side) (OnSide side (may_leave mid))
      spares file outcome = subst (λ (f : List ℕ). Agrees places (seen old side) f) outcome.is (leaves outcome.both outcome.outcome).here

-- a write from the place of a cut on
pub within_cut : (at end place : ℕ) → from at place ≡ false → (from at place || between at end place) ≡ false
within_cut at end place shut = grind (arith, nat_tests)

-- after a sync of a side whose other one a crash leaves whole
pub synced : (side : Side) (contents : Contents) (old mid new : Contents → Type 0) (was : List ℕ) → contents (other side) ≡ was → Only was (OnSide (other side) old)
    → NoMore (OnSide (other side) old) (OnSide (other side) mid) → NoMore mid new → Only (contents side) (OnSide side new) → Only contents new
synced side contents old mid new was same only less still here =
    only_both side contents new here (λ file left. only file (less file (less_side (other side) mid new still file left)) ∙ sym same)

-- of what an Ok means, what follows
pub on_ok : {T E : Type 0} {P Q : Type 0} (r : Result T E) → (P → Q) → OnOk r P → OnOk r Q
on_ok (Ok x) f p = f p
on_ok (Err e) f p = tt

-- of two things that an Ok means
pub on_both : {T E P Q R : Type 0} (r : Result T E) → (P → Q → R) → OnOk r P → OnOk r Q → OnOk r R
on_both (Ok x) f p q = f p q
on_both (Err e) f p q = tt
