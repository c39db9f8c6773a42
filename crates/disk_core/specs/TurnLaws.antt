-- Laws of what a crash may leave of two files.
use Rattle.std.proofs.Common.{◌≡◌, inl, inr, ℕ, List, [], ◌∷◌, length, Option, ap₂, arith}
use Rattle.std.specs.Coded.{Π_prop, →_prop, Coded-set, coded_ℕ, coded_list, coded_option}
use Rattle.disk_core.specs.declared.side.Side.{Side}
use Rattle.disk_core.specs.declared.side.Side.TheVariants.{First, Second}
use Rattle.disk_core.specs.Disk.{NoMore}
use Rattle.disk_core.specs.Event.{Event, Wrote, Shortened, Synced, BeganWrite, BeganCut, seen_of, ImagesNow}
use Rattle.disk_core.specs.ImageLaws.{image_as_seen}
use Rattle.disk_core.specs.Twin.{Contents}
use Rattle.disk_core.specs.Turns.{Turn, on, both, LeftNow, LeftSince, Told}

pub each_side : (P : Side → Type 0) → P First → P Second → (side : Side) → P side
each_side P first second First = first
each_side P first second Second = second

files_set : IsSet (List ℕ)
files_set = Coded-set (coded_list coded_ℕ)

bytes_set : IsSet (Option ℕ)
bytes_set = Coded-set (coded_option coded_ℕ)

images_prop : (events : List Event) (c : List ℕ) → IsProp (ImagesNow [] events c)
images_prop [] c = hlevel (files_set, bytes_set)
images_prop (Wrote at bytes ∷ events) c = hlevel (files_set, bytes_set)
images_prop (Shortened len ∷ events) c = hlevel (files_set, bytes_set)
images_prop (Synced ∷ events) c = hlevel (files_set, bytes_set)
images_prop (BeganWrite at count ∷ events) c = hlevel (files_set, bytes_set)
images_prop (BeganCut len ∷ events) c = hlevel (files_set, bytes_set)

left_prop : (events : List Event) (may_leave : List ℕ → Type 0) → IsProp (NoMore (ImagesNow [] events) may_leave)
left_prop events may_leave = Π_prop (λ c. →_prop (images_prop events c))

-- that a file is told by its events is one fact
pub told_prop : (events : List Event) (bytes : List ℕ) (may_leave : List ℕ → Type 0) → IsProp (Told events bytes may_leave)
told_prop events bytes may_leave = hlevel (files_set, left_prop events may_leave)

-- what each of two files may leave, both may
pub left_each : (turns : List Turn) (first second : List ℕ) → ImagesNow [] (on First turns) first → ImagesNow [] (on Second turns) second → LeftNow turns (both first second)
left_each turns first second = each_side (λ side. ImagesNow [] (on side turns) (both first second side))

-- The three laws of a twin.
pub left_as_seen : (turns : List Turn) (first second : List ℕ) → first ≡ seen_of [] (on First turns) → second ≡ seen_of [] (on Second turns) → LeftNow turns (both first second)
left_as_seen turns first second is_first is_second =
    left_each turns first second (image_as_seen [] (on First turns) first is_first) (image_as_seen [] (on Second turns) second is_second)

pub left_counts : (turns : List Turn) (t : ℕ) (c : Contents) → LeftNow turns c → LeftSince turns t c
left_counts [] t c now = now
left_counts (turn ∷ turns) t c now = inl now

pub left_only : (turns : List Turn) (c : Contents) → LeftSince turns (length turns) c → LeftNow turns c
left_only [] c left = left
left_only (turn ∷ turns) c (inl now) = now
left_only (turn ∷ turns) c (inr earlier) = absurd (omega (arith, earlier.0))

pub both_same : (first second first' second' : List ℕ) → first ≡ first' → second ≡ second' → both first second ≡ both first' second'
both_same first second first' second' is_first is_second = ap₂ both is_first is_second
