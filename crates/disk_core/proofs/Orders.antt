-- Two steps since the last sync may be listed in either order.
use Rattle.std.proofs.Common.{◌≡◌, ℕ, ◌+◌, Bool, true, false, List, ◌∷◌, length, refl}
use Rattle.std.specs.Prelude.{◌||◌}
use Rattle.disk_core.specs.Disk.{between, from}
use Rattle.disk_core.specs.Event.{Event, Wrote, Shortened, opened, ImagesNow}

turned : (o a b : Bool) → ((o || a) || b) ≡ false → ((o || b) || a) ≡ false
turned false false false e = refl
turned false false true e = absurd cc
turned false true b e = absurd cc
turned true a b e = absurd cc

pub writes : (first : List ℕ) (es : List Event) (at other : ℕ) (bytes others c : List ℕ)
    → ImagesNow first (Wrote at bytes ∷ Wrote other others ∷ es) c → ImagesNow first (Wrote other others ∷ Wrote at bytes ∷ es) c
writes first es at other bytes others c left place l shut =
    left place l (turned (opened es place) (between at (at + length bytes) place) (between other (other + length others) place) shut)

pub write_and_cut : (first : List ℕ) (es : List Event) (at len : ℕ) (bytes c : List ℕ)
    → ImagesNow first (Wrote at bytes ∷ Shortened len ∷ es) c → ImagesNow first (Shortened len ∷ Wrote at bytes ∷ es) c
write_and_cut first es at len bytes c left place l shut =
    left place l (turned (opened es place) (between at (at + length bytes) place) (from len place) shut)

pub cut_and_write : (first : List ℕ) (es : List Event) (at len : ℕ) (bytes c : List ℕ)
    → ImagesNow first (Shortened len ∷ Wrote at bytes ∷ es) c → ImagesNow first (Wrote at bytes ∷ Shortened len ∷ es) c
cut_and_write first es at len bytes c left place l shut =
    left place l (turned (opened es place) (from len place) (between at (at + length bytes) place) shut)
