-- Laws of the definitions of Twin: what is said of both sides and what is said of each.
use Rattle.std.proofs.Common.{◌≡◌, ℕ, Bool, refl, sym, ◌∙◌, ap}
use Rattle.std.proofs.Math.Path.{fun_ext}
use Rattle.disk_core.specs.declared.side.Side.{Side}
use Rattle.disk_core.specs.declared.side.Side.TheVariants.{First, Second}
use Rattle.disk_core.specs.Disk.{Agrees, NoMore, Only, Opens}
use Rattle.disk_core.specs.ImageLaws.{opens_whole}
use Rattle.disk_core.specs.Twin.{other, Contents, OnSide}

-- each side is the one or the other
pub by_side : (side : Side) (P : Side → Type 0) → P side → P (other side) → (s : Side) → P s
by_side First P here there First = here
by_side First P here there Second = there
by_side Second P here there First = there
by_side Second P here there Second = here

-- what is left of both is left of each side
pub on_each : (side : Side) (outcomes : Contents → Type 0) (c : Contents) → outcomes c → OnSide side outcomes (c side)
on_each side outcomes c left = record { both = c; outcome = left; is = refl }

-- both sides are synced if each is
pub only_both : (side : Side) (contents : Contents) (outcomes : Contents → Type 0)
    → Only (contents side) (OnSide side outcomes) → Only (contents (other side)) (OnSide (other side) outcomes) → Only contents outcomes
only_both side contents outcomes here there c left =
    fun_ext (by_side side (λ s. c s ≡ contents s) (here (c side) (on_each side outcomes c left)) (there (c (other side)) (on_each (other side) outcomes c left)))

-- and each is if both are
pub only_side : (side : Side) (contents : Contents) (outcomes : Contents → Type 0) → Only contents outcomes → Only (contents side) (OnSide side outcomes)
only_side side contents outcomes only file left = sym left.is ∙ ap (λ (c : Contents). c side) (only left.both left.outcome)

-- a side stays synced where there is no new outcome
pub less_side : (side : Side) (old new : Contents → Type 0) → NoMore old new → NoMore (OnSide side old) (OnSide side new)
less_side side old new less file left = record { both = left.both; outcome = less left.both left.outcome; is = left.is }

-- what a write on one side may leave of two files that a crash would have left whole: that side spoilt, the other whole
pub record SpoiltOn (side : Side) (places : ℕ → Bool) (old c : Contents) : Type 0 where
  pub here : Agrees places (old side) (c side)
  pub there : c (other side) ≡ old (other side)

pub spoilt_on : (side : Side) (places : ℕ → Bool) (contents : Contents) (old new : Contents → Type 0) → Only contents old
    → Opens places (OnSide side old) (OnSide side new) → NoMore (OnSide (other side) old) (OnSide (other side) new)
    → (c : Contents) → new c → SpoiltOn side places contents c
spoilt_on side places contents old new only opens less c left = record {
  here = opens_whole (contents side) places (OnSide side old) (OnSide side new) opens (only_side side contents old only) (c side) (on_each side new c left);
  there = only_side (other side) contents old only (c (other side)) (less (c (other side)) (on_each (other side) new c left));
}
